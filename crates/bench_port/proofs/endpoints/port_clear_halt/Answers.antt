use Rattle.bench_port.proofs.RowCalls.{cleared}
use Rattle.bench_port.proofs.endpoints.port_clear_halt.Goals as goal

pub returns : goal.returns
returns c = cleared _ _ _ _ _ _ c.clear_halt.ensures c.pack_change.ensures
