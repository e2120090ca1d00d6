-- An opened row is tidy, and its state is the one in which every slot is closed and every place free.
use Prim.Native.Nat.{ℕ, zero, suc, ◌+◌, ◌*◌, ◌/◌, ◌%◌}
use mathlib.Core.Path.{◌≡◌, refl, ap, ◌∙◌}
use mathlib.Core.List.{List}
use native.Mathlib.Omega.{arith}
use lib.ListN.{get_or, length, replicate, length-replicate}
use Rattle.bitset.specs.Words.{bit}
use Rattle.bitset.specs.Places.{all_below}
use Rattle.bitset.proofs.BitLaws.{zero_bit}
use Rattle.settings.specs.declared.settings.Settings.{Settings}
use Rattle.state.specs.Plain.{Ehci}
use Rattle.slot.specs.Ids.{after_id}
use Rattle.words.specs.declared.cores.Rest.{Rest}
use Rattle.words.specs.Good.{Held, Tidy}
use Rattle.words.specs.Opened.{opened_rest, opened_row}
use Rattle.words.specs.Record.{boundary_in, cancel_in, direction_in, id_in, kind_in, last_at, length_in, phase_in, request_in, size_in, toggle_in, word_at}
use Rattle.words.specs.View.{each_from, owner_from, state_of}
use Rattle.words.proofs.EachLaws.{each_replicate}
use Rattle.words.proofs.SumLaws.{holds_bit_lem, owner_none, sum_none}

pub zeros_at : (n i : ℕ) → ◌≡◌ {A = ℕ} (get_or {A = ℕ} (replicate n 0) i 0) 0
zeros_at zero i = refl
zeros_at (suc n) zero = refl
zeros_at (suc n) (suc i) = zeros_at n i

module _ (ws : List ℕ) (zeros : (i : ℕ) → get_or ws i 0 ≡ 0) where
  zeros_held : (k : ℕ) → Held ws k
  zeros_held k =
      record {
        closed = λ e. zeros (6 * k + 1);
        idle = λ e q. omega (arith, e, zeros (6 * k));
        empty = λ e. rw (zeros (6 * k + (2 + 0)), zeros (6 * k + (2 + 1)), zeros (6 * k + (2 + 2)), zeros (6 * k + (2 + 3)));
      }

  zeros_tidy : (s : Settings) (r : Rest) → length ws ≡ 6 * s.endpoints → r.free ≡ all_below s.descriptors → Tidy s r ws
  zeros_tidy s r l e =
      record {
        has_row_length = l;
        held = λ k h. zeros_held k;
        shared_out = λ j i a b.
            rw e (omega (arith, sum_none ws j i 0 s.endpoints (λ k c d. ap (λ (w : ℕ). bit w i) (zeros (6 * k + (2 + j))) ∙ zero_bit i)));
      }

  zeros_owner : (i : ℕ) → owner_from 0 32 ws i ≡ 0
  zeros_owner i =
      owner_none ws i 0 32
      (λ k a b. holds_bit_lem ws i k ∙ ap (λ (w : ℕ). bit w (i % 64)) (zeros (6 * k + (2 + i / 64))) ∙ zero_bit (i % 64))

  zeros_field : (f : ℕ → ℕ) → each_from (λ k. f (word_at ws k)) 0 32 ≡ replicate 32 (f 0)
  zeros_field f = each_replicate (λ k. f (word_at ws k)) 0 32 (f 0) (λ k a b. ap f (zeros (6 * k)))

  zeros_ids : each_from (λ k. id_in (last_at ws k)) 0 32 ≡ replicate 32 1
  unfolding after_id
  zeros_ids = each_replicate (λ k. id_in (last_at ws k)) 0 32 1 (λ k a b. ap id_in (zeros (6 * k + 1)))

  zeros_requests : each_from (λ k. request_in (phase_in (word_at ws k)) (last_at ws k)) 0 32 ≡ replicate 32 0
  zeros_requests = each_replicate (λ k. request_in (phase_in (word_at ws k)) (last_at ws k)) 0 32 0 (λ k a b. rw (zeros (6 * k)))

module _ (s : Settings) where
  pub tidy_opened : Tidy s (opened_rest s.descriptors) (opened_row s.endpoints)
  unfolding opened_rest
  tidy_opened = zeros_tidy (opened_row s.endpoints) (zeros_at (6 * s.endpoints)) s (opened_rest s.descriptors) (length-replicate (6 * s.endpoints) 0) refl

  -- opening's fresh state
  pub view_opened : ◌≡◌ {A = Ehci} (state_of s (opened_rest s.descriptors) (opened_row s.endpoints))
      (record {
        settings = s;
        running = 0;
        step = 0;
        waited = 0;
        address = 1;
        enabled = 0;
        pending = 0;
        masked = 0;
        noted = 0;
        doorbell = 0;
        unanswered = 0;
        owner = replicate 256 0;
        phases = replicate 32 0;
        kinds = replicate 32 0;
        sizes = replicate 32 0;
        toggles = replicate 32 0;
        ids = replicate 32 1;
        requests = replicate 32 0;
        directions = replicate 32 0;
        lengths = replicate 32 0;
        cancels = replicate 32 0;
        boundaries = replicate 32 0;
      })
  unfolding state_of opened_rest
  view_opened =
      rw (
        each_replicate (owner_from 0 32 ws) 0 256 0 (λ i a b. zeros_owner ws zeros i),
        zeros_field ws zeros (λ w. phase_in w),
        zeros_field ws zeros (λ w. kind_in w),
        zeros_field ws zeros (λ w. size_in w),
        zeros_field ws zeros (λ w. toggle_in w),
        zeros_ids ws zeros,
        zeros_requests ws zeros,
        zeros_field ws zeros (λ w. direction_in w),
        zeros_field ws zeros (λ w. length_in w),
        zeros_field ws zeros (λ w. cancel_in w),
        zeros_field ws zeros (λ w. boundary_in w),
      )
    where
      ws : List ℕ
      ws = opened_row s.endpoints

      zeros : (i : ℕ) → get_or ws i 0 ≡ 0
      zeros = zeros_at (6 * s.endpoints)
