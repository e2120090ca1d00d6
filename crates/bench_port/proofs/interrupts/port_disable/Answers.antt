use Rattle.bench_port.proofs.CoreCalls.{settled}
use Rattle.bench_port.proofs.interrupts.port_disable.Goals as goal

pub returns : goal.returns
returns c = settled _ _ _ _ c.disable.ensures c.pack_settled.ensures
