use Rattle.bench_port.proofs.RowCalls.{cancelled}
use Rattle.bench_port.proofs.requests.port_cancel.Goals as goal

pub returns : goal.returns
returns c = cancelled _ _ _ _ _ _ _ _ _ _ c.cancel.ensures c.pack_cancelled.ensures
