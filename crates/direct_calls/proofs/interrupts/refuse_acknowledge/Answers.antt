use Rattle.direct_calls.proofs.interrupts.refuse_acknowledge.Goals as goal

pub returns : goal.returns
returns c = rw c.none.ensures.value
