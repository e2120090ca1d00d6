use native.Mathlib.Omega.{arith}
use Rattle.call_log.proofs.RecordCases.{entry_cut, entry_whole}
use Rattle.call_log.proofs.record.read_record.Goals as goal

pub returns-then-bytes-ne-RECORD : goal.returns-then-bytes-ne-RECORD
returns-then-bytes-ne-RECORD c = entry_cut _ c.if-bytes-ne-RECORD.true

pub returns : goal.returns
returns c = entry_whole _ _ _ (omega arith) c.decode.ensures c.entry_from.ensures
