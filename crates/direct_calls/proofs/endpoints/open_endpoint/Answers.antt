use Rattle.direct_calls.proofs.HeadsCases.{heads_decides, heads_refuses}
use Rattle.direct_calls.proofs.TakesCases.{heads_good, heads_length_lem}
use Rattle.direct_calls.proofs.endpoints.open_endpoint.Goals as goal

pub returns-then-not-takes_heads : goal.returns-then-not-takes_heads
returns-then-not-takes_heads c = search heads_refuses

pub open_endpoint-requires-clause-good : goal.open_endpoint-requires-clause-good
open_endpoint-requires-clause-good c = search (heads_good, heads_length_lem)

pub open_endpoint-requires-clause-heads_len : goal.open_endpoint-requires-clause-heads_len
open_endpoint-requires-clause-heads_len c = search (heads_good, heads_length_lem)

pub returns : goal.returns
returns c = search heads_decides
