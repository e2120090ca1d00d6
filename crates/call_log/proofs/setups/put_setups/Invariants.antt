use Rattle.common.specs.Rows.{put_at}
use Rattle.text.specs.Text.{lines_to}
use Rattle.std.specs.Prelude.{◌≡◌, ℕ, ◌+◌, List, length}
use Rattle.call_log.specs.Changes.{setup_change}
use Rattle.call_log.proofs.setups.put_setups.Given as goal

abbrev said_of : List ℕ → List ℕ → ℕ → List ℕ
said_of before after = setup_change before after

abbrev pub invariant-loop-slot : goal.invariant-loop-slot
invariant-loop-slot l = (length l.out ≡ length l.initial.out) × (l.out ≡ put_at l.initial.out l.at (lines_to (said_of l.before l.after) l.slot)) × (l.place ≡ l.at + length (lines_to (said_of l.before l.after) l.slot))
