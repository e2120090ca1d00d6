use Rattle.common.specs.Rows.{put_at}
use Rattle.text.specs.Text.{lines_to}
use Rattle.std.specs.Prelude.{◌≡◌, ℕ, ◌+◌, List, length}
use Rattle.call_log.specs.Changes.{first_of, frame_change}
use Rattle.call_log.proofs.frames.put_frames.Given as goal

abbrev said_of : List ℕ → List ℕ → ℕ → List ℕ
said_of before after = frame_change before after

abbrev pub invariant-loop-i : goal.invariant-loop-i
invariant-loop-i l = (length l.out ≡ length l.initial.out) × (l.out ≡ put_at l.initial.out l.at (lines_to (said_of l.before l.after) l.i))
    × (l.place ≡ l.at + length (lines_to (said_of l.before l.after) l.i)) × (l.first ≡ first_of l.before l.after l.i)
