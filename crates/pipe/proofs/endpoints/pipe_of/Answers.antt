use Rattle.pipe.proofs.endpoints.pipe_of.Goals as goal

pub returns : goal.returns
returns c = rw c.kind_of.ensures
