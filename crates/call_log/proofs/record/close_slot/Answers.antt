use Rattle.call_log.specs.Records.{close}
use Rattle.call_log.proofs.record.close_slot.Goals as goal

pub returns : goal.returns
unfolding close
returns c = rw (← c.spare.ensures) c.then_some.ensures
