use Rattle.request.proofs.JudgeCases.{ranges_control, ranges_other}
use Rattle.request.proofs.judge.ranges_good.Goals as goal

pub returns-then-is_control : goal.returns-then-is_control
returns-then-is_control c = ranges_control _ _ _ c.buffer_good-buffer.ensures c.is_control.ensures _ c.if-is_control.true c.control_good.ensures

pub returns : goal.returns
returns c = search ranges_other
