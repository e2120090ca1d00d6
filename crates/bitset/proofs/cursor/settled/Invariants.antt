use Prim.Native.Nat.{◌-◌}
use mathlib.Core.Path.{◌≡◌}
use Rattle.bitset.specs.Rest.{coming_of, settled_of}
use Rattle.bitset.proofs.cursor.settled.Given as goal

abbrev pub invariant-loop-at : goal.invariant-loop-at
invariant-loop-at l = (settled_of l.at ≡ settled_of l.initial.at) × (coming_of l.at ≡ coming_of l.initial.at)

abbrev pub decreases-loop-at : goal.decreases-loop-at
decreases-loop-at l = 256 - l.at.base
