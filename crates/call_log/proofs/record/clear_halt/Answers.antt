use Rattle.call_log.specs.Records.{clear_halt}
use Rattle.call_log.proofs.record.clear_halt.Goals as goal

pub returns : goal.returns
unfolding clear_halt
returns c = rw (← c.spare.ensures) c.then_some.ensures
