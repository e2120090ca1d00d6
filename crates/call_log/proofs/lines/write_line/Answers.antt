use Rattle.call_log.specs.Lines.{line_of, said, said_line, write_line}
use Rattle.call_log.proofs.lines.write_line.Goals as goal

pub returns : goal.returns
unfolding said_line said line_of write_line
returns c = c.line_of_two.ensures
