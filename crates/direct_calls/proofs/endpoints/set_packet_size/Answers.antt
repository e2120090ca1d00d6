use Rattle.direct_calls.proofs.HeadsCases.{heads_decides, heads_refuses}
use Rattle.direct_calls.proofs.TakesCases.{heads_good, heads_length_lem}
use Rattle.direct_calls.proofs.endpoints.set_packet_size.Goals as goal

pub returns-then-not-takes_heads : goal.returns-then-not-takes_heads
returns-then-not-takes_heads c = search heads_refuses

pub set_packet_size-requires-clause-good : goal.set_packet_size-requires-clause-good
set_packet_size-requires-clause-good c = search (heads_good, heads_length_lem)

pub set_packet_size-requires-clause-heads_len : goal.set_packet_size-requires-clause-heads_len
set_packet_size-requires-clause-heads_len c = search (heads_good, heads_length_lem)

pub returns : goal.returns
returns c = search heads_decides
