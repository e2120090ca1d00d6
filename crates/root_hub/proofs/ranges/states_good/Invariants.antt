use mathlib.Core.Bool.{◌&&◌}
use mathlib.Core.Path.{◌≡◌}
use Prim.Native.Nat.{◌-◌}
use Rattle.root_hub.specs.Ranges.{states_good}
use Rattle.root_hub.proofs.ranges.states_good.Given as goal

abbrev pub invariant-loop-k : goal.invariant-loop-k
invariant-loop-k l = (l.good && states_good l.k (15 - l.k) l.hub) ≡ states_good 0 15 l.hub
