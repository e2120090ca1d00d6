-- The returns of the functions that decide a slot's ranges.
use Prim.Native.Nat.{ℕ}
use mathlib.Core.Path.{◌≡◌, ◌∙◌}
use mathlib.Core.Bool.{Bool, false, ◌&&◌}
use borrow.Author.Tests.{ne_eqb}
use Rattle.slot.specs.declared.slot.Slot.{Slot}
use Rattle.slot.specs.Ranges.{open_kind, no_request, closed_good, idle_good, linked_good, unlinking_good, phase_good}

module _ (e : Slot) (u : ℕ) where
  pub phase_closed : (r : Bool) → e.phase ≡ 0 → r ≡ closed_good e → r ≡ phase_good e u
  unfolding phase_good
  phase_closed r p er = er ∙ rw p

  pub phase_idle : (z n : Bool) → e.phase ≡ 1 → z ≡ open_kind e.kind → n ≡ no_request e → (z && n) ≡ phase_good e u
  unfolding phase_good idle_good
  phase_idle z n p ez en = rw (ez, en, p)

  pub phase_linked : (r : Bool) → e.phase ≡ 2 → r ≡ linked_good e → r ≡ phase_good e u
  unfolding phase_good
  phase_linked r p er = er ∙ rw p

  pub phase_unlinking : (r : Bool) → e.phase ≡ 3 → r ≡ unlinking_good e u → r ≡ phase_good e u
  unfolding phase_good
  phase_unlinking r p er = er ∙ rw p

  pub phase_unknown : (e.phase ≡ 0 → ⊥) → (e.phase ≡ 1 → ⊥) → (e.phase ≡ 2 → ⊥) → (e.phase ≡ 3 → ⊥) → false ≡ phase_good e u
  unfolding phase_good
  phase_unknown a b c d = rw (ne_eqb e.phase 0 a, ne_eqb e.phase 1 b, ne_eqb e.phase 2 c, ne_eqb e.phase 3 d)
