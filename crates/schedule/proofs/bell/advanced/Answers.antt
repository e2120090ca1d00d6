use Rattle.schedule.specs.Bell.{advanced_of}
use Rattle.schedule.proofs.bell.advanced.Goals as goal

pub returns : goal.returns
unfolding advanced_of
returns c = c.ring.ensures
