-- The returns of `allocate_address`.
use Rattle.std.specs.Prelude.{◌≡◌, ◌+◌, ◌<◌, ◌≤◌, Bool, true, false, not, Err, Ok}
use mathlib.Core.Path.{sym, ◌∙◌}
use borrow.Author.Tests.{le-ltb, lt-ltb, not-false, not-true}
use Rattle.common.specs.declared.answer.Refusal.TheVariants.{InvalidParameter, SlotLimitReached}
use Rattle.controller.specs.Plain.{Allotment}
use Rattle.state.specs.Plain.{Ehci}
use Rattle.controller.specs.Address.{allot_of}
use Rattle.state.specs.Ranges.{in_ranges}
use Rattle.state.specs.State.{with_next_address}

module _ (s : Ehci) (g : Bool) (eg : g ≡ in_ranges s) where
  pub allot_bad : not g ≡ true → ◌≡◌ {A = Allotment} (record { answer = Err InvalidParameter; state = s }) (allot_of s)
  unfolding allot_of
  allot_bad t = rw (sym eg ∙ not-true g t)

  pub allot_none : not g ≡ false → 127 < s.address → ◌≡◌ {A = Allotment} (record { answer = Err SlotLimitReached; state = s }) (allot_of s)
  unfolding allot_of
  allot_none t h = rw (sym eg ∙ not-false g t, lt-ltb 127 s.address h)

  pub allot_done : not g ≡ false → s.address ≤ 127
      → ◌≡◌ {A = Allotment} (record { answer = Ok s.address; state = with_next_address s (s.address + 1) }) (allot_of s)
  unfolding allot_of
  allot_done t h = rw (sym eg ∙ not-false g t, le-ltb 127 s.address h)
