use Rattle.direct_calls.proofs.interrupts.refuse.Goals as goal

pub returns : goal.returns
returns c = rw c.none.ensures.value
