use Rattle.pipe.proofs.endpoints.request_of.Goals as goal

pub returns : goal.returns
returns c = rw c.direction_of.ensures
