use Rattle.call_log.specs.Records.{set_address}
use Rattle.call_log.proofs.record.set_address.Goals as goal

pub returns : goal.returns
unfolding set_address
returns c = rw (← c.spare.ensures) c.then_some.ensures
