use Rattle.collection.proofs.UnlinkCases.{bound_interrupt, bound_other}
use Rattle.collection.proofs.unlink.boundary_now.Goals as goal

pub returns-in-Interrupt : goal.returns-in-Interrupt
returns-in-Interrupt c = search bound_interrupt

pub returns-in_default : goal.returns-in_default
returns-in_default c = search bound_other
