use Rattle.std.specs.Prelude.{◌≡◌, ℕ, ◌+◌, List, length, get_or}
use Rattle.common.specs.Rows.{put_at}
use Rattle.register.specs.Writes.{write_of}
use Rattle.register.specs.declared.writes.Write.{Write}
use Rattle.text.specs.Text.{lines_to}
use Rattle.call_log.specs.Lines.{write_line}
use Rattle.call_log.proofs.writes.put_writes.Given as goal

abbrev said_of : List Write → ℕ → List ℕ
said_of list i = write_line (get_or list i (write_of 0 0)).offset (get_or list i (write_of 0 0)).value

abbrev pub invariant-loop-write : goal.invariant-loop-write
invariant-loop-write l = (length l.out ≡ length l.initial.out) × (l.out ≡ put_at l.initial.out l.at (lines_to (said_of l.fn.writes.writes) l.write-index)) × (l.place ≡ l.at + length (lines_to (said_of l.fn.writes.writes) l.write-index))
