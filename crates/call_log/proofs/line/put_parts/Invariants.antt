use Rattle.common.specs.Rows.{put_at}
use Rattle.call_log.specs.Lines.{said}
use Rattle.std.specs.Prelude.{◌≡◌, ◌+◌, ◌*◌, ◌≤◌, length, take}
use Rattle.call_log.proofs.line.put_parts.Given as goal

abbrev pub invariant-loop-part : goal.invariant-loop-part
invariant-loop-part l = (length l.out ≡ length l.initial.out) × (l.place ≤ l.at + 21 * l.part-index) × (l.out ≡ put_at l.initial.out l.at (said (take l.part-index l.parts)))
    × (l.place ≡ l.at + length (said (take l.part-index l.parts)))
