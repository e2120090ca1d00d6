use Rattle.bench_port.proofs.RowCalls.{drained}
use Rattle.bench_port.proofs.interrupts.port_drain.Goals as goal

pub returns : goal.returns
returns c = drained _ _ _ _ _ _ c.drain.ensures c.pack_drained.ensures
