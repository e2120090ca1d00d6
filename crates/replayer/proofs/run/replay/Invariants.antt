use Prim.Native.Nat.{◌≤◌}
use Rattle.replayer.proofs.run.replay.Given as goal

abbrev pub invariant-loop-left : goal.invariant-loop-left
invariant-loop-left l = l.left ≤ 18446744073709551615

abbrev pub decreases-loop-left : goal.decreases-loop-left
decreases-loop-left l = l.left
