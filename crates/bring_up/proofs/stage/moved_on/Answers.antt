use Rattle.bring_up.proofs.Cases.{on_stop, on_halting, on_reset, on_resetting, on_run, on_starting}
use Rattle.bring_up.proofs.stage.moved_on.Goals as goal

pub returns-in-Stop : goal.returns-in-Stop
returns-in-Stop c = search on_stop

pub returns-in-Halting : goal.returns-in-Halting
returns-in-Halting c = search on_halting

pub returns-in-Reset : goal.returns-in-Reset
returns-in-Reset c = search on_reset

pub returns-in-Resetting : goal.returns-in-Resetting
returns-in-Resetting c = search on_resetting

pub returns-in-Run : goal.returns-in-Run
returns-in-Run c = search on_run

pub returns-in-Starting : goal.returns-in-Starting
returns-in-Starting c = search on_starting
