use Rattle.bring_up.proofs.Cases.{stage_stop, stage_halting, stage_reset, stage_resetting, stage_run, stage_starting}
use Rattle.bring_up.proofs.stage.stage_of.Goals as goal

pub returns-in-1 : goal.returns-in-1
returns-in-1 c = search stage_stop

pub returns-in-2 : goal.returns-in-2
returns-in-2 c = search stage_halting

pub returns-in-3 : goal.returns-in-3
returns-in-3 c = search stage_reset

pub returns-in-4 : goal.returns-in-4
returns-in-4 c = search stage_resetting

pub returns-in-5 : goal.returns-in-5
returns-in-5 c = search stage_run

pub returns-in_default : goal.returns-in_default
returns-in_default c = search stage_starting
