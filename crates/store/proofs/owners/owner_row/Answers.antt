use Rattle.std.proofs.Common.{refl, arith}
use Rattle.store.proofs.OwnersLaws.{row_done, row_turn}
use Rattle.store.proofs.owners.owner_row.Goals as goal

pub loop-i-init : goal.loop-i-init
loop-i-init c = (refl, λ j h. absurd (omega (arith, h)))

pub loop-i-preserved : goal.loop-i-preserved
loop-i-preserved c = search row_turn

pub returns : goal.returns
returns c = search row_done
