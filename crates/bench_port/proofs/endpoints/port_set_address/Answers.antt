use Rattle.bench_port.proofs.RowCalls.{changed}
use Rattle.bench_port.proofs.endpoints.port_set_address.Goals as goal

pub returns : goal.returns
returns c = changed _ _ _ _ _ _ _ _ c.set_address.ensures c.pack_change.ensures
