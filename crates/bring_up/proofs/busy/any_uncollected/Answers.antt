use mathlib.Core.Path.{◌∙◌}
use native.Mathlib.Omega.{arith}
use Rattle.bring_up.proofs.BusyView.{held_begun, held_turn, held_done}
use Rattle.bring_up.proofs.busy.any_uncollected.Goals as goal

pub loop-k-init : goal.loop-k-init
loop-k-init c = held_begun _ _

pub loop-k-preserved : goal.loop-k-preserved
loop-k-preserved c = let l = c.loop-k in held_turn _ _ l.k l.busy (omega arith) ∙ l.invariant

pub returns : goal.returns
returns c = held_done _ _ _ _ _ (omega arith) c.loop-k.invariant
