use Rattle.root_hub.proofs.calls.refuse.Goals as goal

pub returns : goal.returns
returns c = rw c.none.ensures.value
