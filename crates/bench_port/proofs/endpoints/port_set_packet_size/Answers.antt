use Rattle.bench_port.proofs.RowCalls.{changed}
use Rattle.bench_port.proofs.endpoints.port_set_packet_size.Goals as goal

pub returns : goal.returns
returns c = changed _ _ _ _ _ _ _ _ c.set_packet_size.ensures c.pack_change.ensures
