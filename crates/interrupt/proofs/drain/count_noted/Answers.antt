use Rattle.interrupt.proofs.WordsCases.{counted_none, bell_answers, counted_one, tidy_counted}
use Rattle.interrupt.proofs.drain.count_noted.Goals as goal

pub returns-then-rest-eq0-clause-slots_after : goal.returns-then-rest-eq0-clause-slots_after
returns-then-rest-eq0-clause-slots_after c = search counted_none

pub returns-then-rest-eq0-clause-tidy : goal.returns-then-rest-eq0-clause-tidy
returns-then-rest-eq0-clause-tidy c = search counted_none

pub advanced-rung-requires-clause-le_unanswered : goal.advanced-rung-requires-clause-le_unanswered
advanced-rung-requires-clause-le_unanswered c = search bell_answers

pub returns : goal.returns
returns c = search (counted_one, tidy_counted)
