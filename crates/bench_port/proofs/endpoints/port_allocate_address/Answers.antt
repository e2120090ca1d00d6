use Rattle.bench_port.proofs.CoreCalls.{allotted}
use Rattle.bench_port.proofs.endpoints.port_allocate_address.Goals as goal

pub returns : goal.returns
returns c = allotted _ _ _ _ c.allocate_address.ensures c.pack_allotted.ensures
