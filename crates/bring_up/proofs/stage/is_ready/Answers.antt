use Rattle.bring_up.proofs.Cases.{ready_halting, ready_resetting, ready_starting}
use Rattle.bring_up.proofs.stage.is_ready.Goals as goal

pub returns-in-Halting : goal.returns-in-Halting
returns-in-Halting c = search ready_halting

pub returns-in-Resetting : goal.returns-in-Resetting
returns-in-Resetting c = search ready_resetting

pub returns-in-Starting : goal.returns-in-Starting
returns-in-Starting c = search ready_starting
