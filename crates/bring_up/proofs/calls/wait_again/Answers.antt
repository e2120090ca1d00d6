use Rattle.bring_up.proofs.WordsCases.{refused_free, waits_late, waits_more}
use Rattle.bring_up.proofs.calls.wait_again.Goals as goal

pub returns-then-waited-core-clause-by_index : goal.returns-then-waited-core-clause-by_index
returns-then-waited-core-clause-by_index c = search waits_more

pub returns-then-waited-core-clause-free_value : goal.returns-then-waited-core-clause-free_value
returns-then-waited-core-clause-free_value c = search waits_more

pub returns : goal.returns
returns c = search (waits_late, refused_free)
