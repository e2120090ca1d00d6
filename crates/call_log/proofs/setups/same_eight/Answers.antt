use Rattle.call_log.specs.Changes.{same_eight}
use Rattle.call_log.proofs.setups.same_eight.Goals as goal

pub returns : goal.returns
unfolding same_eight
returns c = rw (c.number64.ensures, c.number64-2.ensures)
