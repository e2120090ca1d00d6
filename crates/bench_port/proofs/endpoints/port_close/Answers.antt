use Rattle.bench_port.proofs.RowCalls.{changed}
use Rattle.bench_port.proofs.endpoints.port_close.Goals as goal

pub returns : goal.returns
returns c = changed _ _ _ _ _ _ _ _ c.close.ensures c.pack_change.ensures
