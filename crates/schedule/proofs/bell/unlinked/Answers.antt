use Rattle.schedule.specs.Bell.{unlinked_of}
use Rattle.schedule.proofs.bell.unlinked.Goals as goal

pub returns : goal.returns
unfolding unlinked_of
returns c = c.ring.ensures
