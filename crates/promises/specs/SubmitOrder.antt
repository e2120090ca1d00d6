-- Document 01: "Submit: slot open 3, running 8, nothing uncollected 4, isochronous 5, kind equals the slot's 3, ranges 1, room 6." The order, whoever
-- tells the facts: a state, or a history.
use Rattle.std.specs.Prelude.{Bool, List, [], ◌∷◌, ◌++◌}
use Rattle.common.specs.Answers.{Check}
use Rattle.common.specs.declared.answer.Refusal.TheVariants.{InvalidParameter, InvalidEndpoint, QueueFull, NotSupported, NoMemory, NotReady}

abbrev pub before_lack : (shut stopped busy isochronous other outside : Bool) → List Check
before_lack shut stopped busy isochronous other outside =
    (shut, InvalidEndpoint)
    ∷ (stopped, NotReady)
    ∷ (busy, QueueFull)
    ∷ (isochronous, NotSupported)
    ∷ (other, InvalidEndpoint)
    ∷ (outside, InvalidParameter)
    ∷ []

abbrev pub submit_order : (shut stopped busy isochronous other outside lacks : Bool) → List Check
submit_order shut stopped busy isochronous other outside lacks =
    before_lack shut stopped busy isochronous other outside ++ (lacks, NoMemory) ∷ []
