use lib.ListN.{drop, replicate}
use mathlib.Core.List.{◌++◌}
use mathlib.Core.Path.{◌≡◌}
use Rattle.common.proofs.rows.fill.Given as goal

abbrev pub invariant-loop-element : goal.invariant-loop-element
invariant-loop-element g l = l.row ≡ replicate l.element-index l.value ++ drop l.element-index l.fn.row
