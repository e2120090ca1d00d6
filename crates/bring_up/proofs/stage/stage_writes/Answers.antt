use Rattle.bring_up.proofs.Cases.{writes_stop, writes_reset, writes_resetting, writes_run}
use Rattle.bring_up.proofs.stage.stage_writes.Goals as goal

pub returns-in-Stop : goal.returns-in-Stop
returns-in-Stop c = search writes_stop

pub returns-in-Reset : goal.returns-in-Reset
returns-in-Reset c = search writes_reset

pub returns-in-Resetting : goal.returns-in-Resetting
returns-in-Resetting c = search writes_resetting

pub returns-in-Run : goal.returns-in-Run
returns-in-Run c = search writes_run
