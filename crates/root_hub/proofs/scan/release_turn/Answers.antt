use Rattle.root_hub.proofs.Cases.{release_is}
use Rattle.root_hub.proofs.scan.release_turn.Goals as goal

pub returns : goal.returns
returns c = search release_is
