use Rattle.bench_port.proofs.CoreCalls.{acknowledged}
use Rattle.bench_port.proofs.interrupts.port_acknowledge.Goals as goal

pub returns : goal.returns
returns c = acknowledged _ _ _ _ c.acknowledge.ensures c.pack_acknowledged.ensures
