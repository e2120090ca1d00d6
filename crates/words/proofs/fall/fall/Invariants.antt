use mathlib.Core.Path.{◌≡◌}
use lib.ListN.{length}
use Rattle.words.specs.Record.{fall_to}
use Rattle.words.proofs.fall.fall.Given as goal

abbrev pub invariant-loop-k : goal.invariant-loop-k
invariant-loop-k l = (length l.slots ≡ length l.initial.slots) × (l.slots ≡ fall_to l.initial.slots l.k)
