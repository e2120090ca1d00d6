use Rattle.std.specs.Prelude.{◌≡◌, ◌-◌, ◌||◌}
use Rattle.bring_up.specs.Words.{any_held}
use Rattle.bring_up.proofs.busy.any_uncollected.Given as goal

abbrev pub invariant-loop-k : goal.invariant-loop-k
invariant-loop-k l = (l.busy || any_held l.k (l.fn.endpoints - l.k) l.slots) ≡ any_held 0 l.fn.endpoints l.slots
