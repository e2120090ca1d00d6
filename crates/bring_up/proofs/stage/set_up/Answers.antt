use Rattle.bring_up.proofs.Cases.{set_up_is}
use Rattle.bring_up.proofs.stage.set_up.Goals as goal

pub returns : goal.returns
returns c = search set_up_is
