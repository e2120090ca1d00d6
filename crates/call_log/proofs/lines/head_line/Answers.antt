use Rattle.call_log.specs.Lines.{line_of, said, said_line, head_line}
use Rattle.call_log.proofs.lines.head_line.Goals as goal

pub returns : goal.returns
unfolding said_line said line_of head_line
returns c = c.line_of_three.ensures
