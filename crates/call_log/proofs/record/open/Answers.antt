use Rattle.call_log.specs.Records.{open_entry}
use Rattle.call_log.proofs.record.open.Goals as goal

pub returns : goal.returns
unfolding open_entry
returns c = rw (← c.spare.ensures) c.then_some.ensures
