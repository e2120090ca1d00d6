use Rattle.root_hub.proofs.Cases.{owner_is}
use Rattle.root_hub.proofs.scan.owner_turn.Goals as goal

pub returns : goal.returns
returns c = search owner_is
