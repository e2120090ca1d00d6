use Rattle.root_hub.proofs.Cases.{ports_turn, ports_done}
use native.Mathlib.Omega.{arith}
use mathlib.Core.Path.{refl, ◌∙◌}
use Rattle.root_hub.proofs.ranges.states_good.Goals as goal

pub loop-k-init : goal.loop-k-init
loop-k-init c = refl

pub loop-k-preserved : goal.loop-k-preserved
loop-k-preserved c = let l = c.loop-k in
    ports_turn _ l.k l.good _ (omega arith) c.state_good-good.ensures ∙ l.invariant

pub returns : goal.returns
returns c = ports_done _ _ _ _ (omega arith) c.loop-k.invariant
