use Rattle.words.proofs.RecordCases.{id_follows, id_wraps}
use Rattle.words.proofs.record.id_in.Goals as goal

pub returns-then-last-eq-LAST_ID : goal.returns-then-last-eq-LAST_ID
returns-then-last-eq-LAST_ID c = search id_wraps

pub returns-else-last-eq-LAST_ID : goal.returns-else-last-eq-LAST_ID
returns-else-last-eq-LAST_ID c = search id_follows
