use Rattle.words.proofs.RecordCases.{slot_parts}
use Rattle.words.proofs.record.slot_in.Goals as goal

pub returns : goal.returns
returns c = search slot_parts
