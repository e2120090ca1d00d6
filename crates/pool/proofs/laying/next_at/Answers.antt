use Rattle.pool.proofs.WordCases.{next_none, next_some, next_below, next_fits}
use borrow.Author.Rules.{rules}
use Rattle.pool.proofs.laying.next_at.Goals as goal

pub overflow_cast-result : goal.overflow_cast-result
overflow_cast-result c = search (rules, next_below)

pub returns : goal.returns
returns c = search next_some
