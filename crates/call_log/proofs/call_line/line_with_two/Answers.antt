use Rattle.call_log.specs.CallLine.{call_line}
use Rattle.call_log.specs.Lines.{line_of, said, said_line}
use Rattle.call_log.proofs.call_line.line_with_two.Goals as goal

pub returns : goal.returns
unfolding said_line said line_of call_line
returns c = c.line_with.ensures
