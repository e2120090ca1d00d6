use Rattle.interrupt.proofs.WordsCases.{rearmed_none, rearmed_some}
use Rattle.interrupt.proofs.calls.rearm.Goals as goal

pub returns-then-rest-eq0-clause-by_index : goal.returns-then-rest-eq0-clause-by_index
returns-then-rest-eq0-clause-by_index c = search rearmed_none

pub returns-then-rest-eq0-clause-free_value : goal.returns-then-rest-eq0-clause-free_value
returns-then-rest-eq0-clause-free_value c = search rearmed_none

pub returns-clause-by_index : goal.returns-clause-by_index
returns-clause-by_index c = search rearmed_some

pub returns-clause-free_value : goal.returns-clause-free_value
returns-clause-free_value c = search rearmed_some
