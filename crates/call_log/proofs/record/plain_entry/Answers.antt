use Rattle.call_log.specs.Records.{plain}
use Rattle.call_log.proofs.record.plain_entry.Goals as goal

pub returns : goal.returns
unfolding plain
returns c = rw (← c.spare.ensures) c.then_some.ensures
