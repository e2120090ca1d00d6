use Rattle.common.proofs.RowsCases.{fill_turn}
use native.Mathlib.Omega.{arith}
use Rattle.common.proofs.rows.fill.Goals as goal

pub loop-element-preserved : goal.loop-element-preserved
loop-element-preserved g c = fill_turn _ _ _ _ (omega arith) c.loop-element.invariant
