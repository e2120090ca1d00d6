use Rattle.common.specs.Rows.{put_at}
use Rattle.text.specs.Text.{lines_to}
use Rattle.std.specs.Prelude.{◌≡◌, ℕ, ◌+◌, List, length, get_or}
use Rattle.descriptor.specs.declared.qtd.QueueTransferDescriptor.{QueueTransferDescriptor}
use Rattle.pool.specs.Chains.{blank}
use Rattle.call_log.specs.Changes.{record_change}
use Rattle.call_log.proofs.records.put_records.Given as goal

abbrev said_of : List QueueTransferDescriptor → List QueueTransferDescriptor → ℕ → List ℕ
said_of before after i = record_change i (get_or before i blank) (get_or after i blank)

abbrev pub invariant-loop-i : goal.invariant-loop-i
invariant-loop-i l = (length l.out ≡ length l.initial.out) × (l.out ≡ put_at l.initial.out l.at (lines_to (said_of l.before l.after) l.i)) × (l.place ≡ l.at + length (lines_to (said_of l.before l.after) l.i))
