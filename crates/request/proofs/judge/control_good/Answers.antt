use Rattle.request.proofs.JudgeCases.{control_is}
use Rattle.request.proofs.judge.control_good.Goals as goal

pub returns : goal.returns
returns c = control_is _ _ c.direction_number-bit.ensures
