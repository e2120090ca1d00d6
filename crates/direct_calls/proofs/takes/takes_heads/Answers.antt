use Rattle.direct_calls.proofs.TakesCases.{heads_asked, heads_else}
use Rattle.direct_calls.proofs.takes.takes_heads.Goals as goal

pub returns-then-heads-endpoints : goal.returns-then-heads-endpoints
returns-then-heads-endpoints c = search heads_asked

pub returns-else-heads-endpoints : goal.returns-else-heads-endpoints
returns-else-heads-endpoints c = search heads_else
