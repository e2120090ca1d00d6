use Rattle.direct_calls.proofs.HeadsCases.{heads_decides, heads_refuses}
use Rattle.direct_calls.proofs.TakesCases.{heads_good, heads_length_lem}
use Rattle.direct_calls.proofs.endpoints.close.Goals as goal

pub returns-then-not-takes_heads : goal.returns-then-not-takes_heads
returns-then-not-takes_heads c = search heads_refuses

pub close-requires-clause-good : goal.close-requires-clause-good
close-requires-clause-good c = search (heads_good, heads_length_lem)

pub close-requires-clause-heads_len : goal.close-requires-clause-heads_len
close-requires-clause-heads_len c = search (heads_good, heads_length_lem)

pub returns : goal.returns
returns c = search heads_decides
