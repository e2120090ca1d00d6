use Rattle.words.proofs.TidyLaws.{tidy_rest}
use Rattle.interrupt.proofs.WordsCases.{drained_nothing, drained_some}
use Rattle.interrupt.proofs.calls.drain.Goals as goal

pub returns-then-pending-eq0-clause-slots_after : goal.returns-then-pending-eq0-clause-slots_after
returns-then-pending-eq0-clause-slots_after c = search drained_nothing

pub returns-then-pending-eq0-clause-tidy : goal.returns-then-pending-eq0-clause-tidy
returns-then-pending-eq0-clause-tidy c = search drained_nothing

pub returns : goal.returns
returns c = search (drained_some, tidy_rest)
