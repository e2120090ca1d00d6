use Rattle.std.specs.Prelude.{◌≡◌, ℕ, ◌+◌, Bool, List, length, get_or}
use Rattle.common.specs.Rows.{put_at}
use Rattle.text.specs.Text.{lines_to}
use Rattle.call_log.specs.Changes.{port_change}
use Rattle.call_log.proofs.rows.put_ports.Given as goal

abbrev said_of : Bool → List ℕ → List ℕ → ℕ → List ℕ
said_of opening before after i = port_change opening i (get_or before i 0) (get_or after i 0)

abbrev pub invariant-loop-i : goal.invariant-loop-i
invariant-loop-i l = (length l.out ≡ length l.initial.out) × (l.out ≡ put_at l.initial.out l.at (lines_to (said_of l.opening l.before l.after) l.i))
    × (l.place ≡ l.at + length (lines_to (said_of l.opening l.before l.after) l.i))
