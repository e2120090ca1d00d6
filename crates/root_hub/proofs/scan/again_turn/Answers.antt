use Rattle.root_hub.proofs.Cases.{again_lost, again_slow, again_high}
use Rattle.root_hub.proofs.scan.again_turn.Goals as goal

pub returns-then-not-connected : goal.returns-then-not-connected
returns-then-not-connected c = search again_lost

pub returns-then-not-enabled : goal.returns-then-not-enabled
returns-then-not-enabled c = search again_slow

pub returns : goal.returns
returns c = search again_high
