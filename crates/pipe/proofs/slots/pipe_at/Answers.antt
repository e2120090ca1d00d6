use Rattle.pipe.proofs.slots.pipe_at.Goals as goal

pub returns : goal.returns
returns c = rw (c.pipe_of.ensures, c.slot_at.ensures)
