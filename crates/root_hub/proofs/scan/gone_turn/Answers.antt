use Rattle.root_hub.proofs.Cases.{gone_is}
use Rattle.root_hub.proofs.scan.gone_turn.Goals as goal

pub returns : goal.returns
returns c = search gone_is
