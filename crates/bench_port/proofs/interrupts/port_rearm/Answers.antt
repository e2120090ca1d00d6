use Rattle.bench_port.proofs.CoreCalls.{settled}
use Rattle.bench_port.proofs.interrupts.port_rearm.Goals as goal

pub returns : goal.returns
returns c = settled _ _ _ _ c.rearm.ensures c.pack_settled.ensures
