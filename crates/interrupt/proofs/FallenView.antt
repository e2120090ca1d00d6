-- The boundaries of a state in words after a fall are those that the calls' definitions lower.
use Rattle.std.specs.Prelude.{◌≡◌, ℕ, zero, suc, ◌+◌, ◌-◌, ◌<◌, ◌≤◌, Bool, true, false, cond, not, ◌&&◌, eqb, List, get_or}
use mathlib.Core.Path.{refl, sym, ◌∙◌}
use native.Mathlib.Omega.{arith}
use Rattle.schedule.specs.Bell.{fall_if, fallen_from, fallen_one}
use Rattle.settings.specs.declared.settings.Settings.{Settings}
use Rattle.words.specs.declared.cores.Rest.{Rest}
use Rattle.words.specs.Record.{boundary_in, fallen_word, kind_in, phase_in, word_at}
use Rattle.words.specs.View.{each_from, state_of}
use Rattle.words.proofs.FallenLaws.{boundaries_fallen}
use Rattle.words.proofs.ViewLaws.{view_boundary, view_kind, view_phase}

fall_is : (b : Bool) (n : ℕ) → fall_if b n ≡ cond b (n - 1) n
fall_is true n = refl
fall_is false n = refl

module _ (s : Settings) (r : Rest) (ws : List ℕ) where
  -- a slot's boundary, by its words
  lowered : ℕ → ℕ
  lowered k =
      cond (eqb (phase_in (word_at ws k)) 3 && not (eqb (kind_in (word_at ws k)) 3)) (boundary_in (word_at ws k) - 1) (boundary_in (word_at ws k))

  fallen_one_lem : (k : ℕ) → k < 32
      → fallen_one (get_or (state_of s r ws).phases k 0) (get_or (state_of s r ws).kinds k 0) (get_or (state_of s r ws).boundaries k 0) ≡ lowered k
  unfolding fallen_one lowered
  fallen_one_lem k l =
      rw (view_phase s r ws k l, view_kind s r ws k l, view_boundary s r ws k l)
      (fall_is (eqb (phase_in (word_at ws k)) 3 && not (eqb (kind_in (word_at ws k)) 3)) (boundary_in (word_at ws k)))

  fallen_each : (k n : ℕ) → k + n ≤ 32
      → fallen_from k n (state_of s r ws).phases (state_of s r ws).kinds (state_of s r ws).boundaries ≡ each_from lowered k n
  unfolding fallen_from each_from
  fallen_each k zero h = refl
  fallen_each k (suc n) h = rw (fallen_one_lem k (omega arith), fallen_each (suc k) n (omega arith))

  pub fallen_view : each_from (λ k. boundary_in (fallen_word (word_at ws k))) 0 32
      ≡ fallen_from 0 32 (state_of s r ws).phases (state_of s r ws).kinds (state_of s r ws).boundaries
  unfolding lowered
  fallen_view = boundaries_fallen ws ∙ sym (fallen_each 0 32 (omega arith))
