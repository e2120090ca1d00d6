-- Document 01: "Addresses are allotted 1 to 127 in turn"; after 127, 2.
use Rattle.std.specs.Prelude.{ℕ, ◌+◌, not, [], ◌∷◌, nat_lt, Err, Ok, Result}
use Rattle.common.specs.declared.answer.Refusal.TheVariants.{InvalidParameter, SlotLimitReached}
use Rattle.controller.specs.Plain.{Allotment}
use Rattle.state.specs.Plain.{Ehci}
use Rattle.common.specs.Answers.{refusal_number, first, settle}
use Rattle.state.specs.Ranges.{in_ranges}
use Rattle.state.specs.State.{with_next_address}
use Rattle.common.specs.declared.answer.Refusal.{Refusal}

abbrev pub allotted_number : Result ℕ Refusal → ℕ
allotted_number (Ok a) = 0
allotted_number (Err r) = refusal_number r

unfoldable pub allot_of : Ehci → Allotment
allot_of s =
    settle (first ((not (in_ranges s), InvalidParameter) ∷ (nat_lt 127 s.address, SlotLimitReached) ∷ []))
    (λ r. record { answer = Err r; state = s })
    (record { answer = Ok s.address; state = with_next_address s (s.address + 1) })
