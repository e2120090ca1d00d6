use Rattle.call_log.specs.Records.{set_packet_size}
use Rattle.call_log.proofs.record.set_packet_size.Goals as goal

pub returns : goal.returns
unfolding set_packet_size
returns c = rw (← c.spare.ensures) c.then_some.ensures
