use Rattle.collection.proofs.AnswerCases.{outcome_cancelled, outcome_complete, outcome_failed}
use Rattle.collection.proofs.collected.outcome_of.Goals as goal

pub returns-then-cancelled : goal.returns-then-cancelled
returns-then-cancelled c = search outcome_cancelled

pub returns-then-failed-ne0 : goal.returns-then-failed-ne0
returns-then-failed-ne0 c = search outcome_failed

pub returns : goal.returns
returns c = search outcome_complete
