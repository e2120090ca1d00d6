use Rattle.words.proofs.RecordCases.{last_before, last_own}
use Rattle.words.proofs.record.last_of.Goals as goal

pub returns-then-e-ge2 : goal.returns-then-e-ge2
returns-then-e-ge2 c = search last_own

pub returns-else-e-ge2 : goal.returns-else-e-ge2
returns-else-e-ge2 c = search last_before
