use Rattle.bench_port.proofs.CoreCalls.{settled}
use Rattle.bench_port.proofs.interrupts.port_enable.Goals as goal

pub returns : goal.returns
returns c = settled _ _ _ _ c.enable.ensures c.pack_settled.ensures
