use Rattle.bring_up.proofs.WordsCases.{refused_free, steps_again, steps_none, steps_onward}
use Rattle.bring_up.proofs.calls.step.Goals as goal

pub returns-then-at-eq0 : goal.returns-then-at-eq0
returns-then-at-eq0 c = search (steps_none, refused_free)

pub returns-then-is_ready-clause-by_index : goal.returns-then-is_ready-clause-by_index
returns-then-is_ready-clause-by_index c = search steps_onward

pub returns-then-is_ready-clause-free_value : goal.returns-then-is_ready-clause-free_value
returns-then-is_ready-clause-free_value c = search steps_onward

pub returns-clause-by_index : goal.returns-clause-by_index
returns-clause-by_index c = search steps_again

pub returns-clause-free_value : goal.returns-clause-free_value
returns-clause-free_value c = search steps_again
