-- The state that a core and a row of slots stand for.
use Rattle.std.specs.Prelude.{ℕ, zero, suc, ◌/◌, ◌%◌, ◌^◌, cond, List, [], ◌∷◌, eqb}
use Rattle.settings.specs.declared.settings.Settings.{Settings}
use Rattle.state.specs.Plain.{Ehci}
use Rattle.words.specs.declared.cores.Core.{Core}
use Rattle.words.specs.declared.cores.Rest.{Rest}
use Rattle.words.specs.Record.{boundary_in, cancel_in, direction_in, id_in, kind_in, last_at, length_in, part_at, phase_in, request_in, size_in, toggle_in, word_at}

-- bit i of slot k's places: 1 where place i is one of them
unfoldable pub holds_bit : List ℕ → ℕ → ℕ → ℕ
holds_bit ws k i = part_at ws k (i / 64) / 2 ^ (i % 64) % 2

-- the owner of place i among n slots from slot k on: the first that holds it, plus 1; 0 where none does
unfoldable pub owner_from : ℕ → ℕ → List ℕ → ℕ → ℕ
owner_from k zero ws i = 0
owner_from k (suc n) ws i = cond (eqb (holds_bit ws k i) 1) (suc k) (owner_from (suc k) n ws i)

-- f of each of n numbers from k on
unfoldable pub each_from : (ℕ → ℕ) → ℕ → ℕ → List ℕ
each_from f k zero = []
each_from f k (suc n) = f k ∷ each_from f (suc k) n

unfoldable pub state_of : Settings → Rest → List ℕ → Ehci
state_of s r ws =
    record {
      settings = s;
      running = r.running;
      step = r.step;
      waited = r.waited;
      address = r.address;
      enabled = r.enabled;
      pending = r.pending;
      masked = r.masked;
      noted = r.noted;
      doorbell = r.doorbell;
      unanswered = r.unanswered;
      owner = each_from (owner_from 0 32 ws) 0 256;
      phases = each_from (λ k. phase_in (word_at ws k)) 0 32;
      kinds = each_from (λ k. kind_in (word_at ws k)) 0 32;
      sizes = each_from (λ k. size_in (word_at ws k)) 0 32;
      toggles = each_from (λ k. toggle_in (word_at ws k)) 0 32;
      ids = each_from (λ k. id_in (last_at ws k)) 0 32;
      requests = each_from (λ k. request_in (phase_in (word_at ws k)) (last_at ws k)) 0 32;
      directions = each_from (λ k. direction_in (word_at ws k)) 0 32;
      lengths = each_from (λ k. length_in (word_at ws k)) 0 32;
      cancels = each_from (λ k. cancel_in (word_at ws k)) 0 32;
      boundaries = each_from (λ k. boundary_in (word_at ws k)) 0 32;
    }

abbrev pub view : Core → List ℕ → Ehci
view c ws = state_of c.settings c.rest ws
