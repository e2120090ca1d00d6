use mathlib.Core.Path.{refl}
use lib.ListN.{length-set}
use Rattle.words.specs.Record.{fall_to}
use Rattle.words.proofs.FallLaws.{fall_turn}
use Rattle.words.proofs.fall.fall.Goals as goal

pub loop-k-init : goal.loop-k-init
unfolding fall_to
loop-k-init c = (refl, refl)

pub loop-k-preserved : goal.loop-k-preserved
loop-k-preserved c = let l = c.loop-k in
    (simp length-set l.invariant.0, fall_turn _ _ _ _ l.invariant.1 c.fallen_word.ensures)
