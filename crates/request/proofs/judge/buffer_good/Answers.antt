use Rattle.request.proofs.JudgeCases.{buffer_empty, buffer_large, buffer_is}
use Rattle.request.proofs.judge.buffer_good.Goals as goal

pub returns-then-length-eq0 : goal.returns-then-length-eq0
returns-then-length-eq0 c = search buffer_empty

pub returns-then-length-le-MEMORY_END : goal.returns-then-length-le-MEMORY_END
returns-then-length-le-MEMORY_END c = search buffer_is

pub returns-else-length-le-MEMORY_END : goal.returns-else-length-le-MEMORY_END
returns-else-length-le-MEMORY_END c = search buffer_large
