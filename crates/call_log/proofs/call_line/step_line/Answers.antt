use Rattle.call_log.proofs.call_line.step_line.Goals as goal

pub returns : goal.returns
returns c = c.line_with.ensures
