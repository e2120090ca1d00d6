use Rattle.bench_port.proofs.RowCalls.{opened}
use Rattle.std.specs.Prelude.{ℕ}
use Rattle.common.specs.declared.kinds.EndpointType.{EndpointType}
use Rattle.words.specs.View.{view}
use Rattle.endpoint.specs.Calls.{open_endpoint_of}
use Rattle.bench_port.proofs.endpoints.port_open_endpoint.Goals as goal

pub returns : goal.returns
returns c = let a = c.args in
    opened _ _ _ _ _ _ _ _
    (λ (kind : EndpointType) (pool frames setups : ℕ). open_endpoint_of (view a.core a.slots.now) pool a.heads.now frames setups kind a.address a.number a.packet)
    _ c.kind_of.ensures c.open_endpoint.ensures c.pack_opened.ensures
