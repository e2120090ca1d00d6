use Rattle.root_hub.proofs.Cases.{reset_is}
use Rattle.root_hub.proofs.scan.reset_turn.Goals as goal

pub returns : goal.returns
returns c = search reset_is
