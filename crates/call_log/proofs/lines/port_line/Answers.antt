use Rattle.call_log.specs.Lines.{line_of, said, said_line, port_line}
use Rattle.call_log.proofs.lines.port_line.Goals as goal

pub returns : goal.returns
unfolding said_line said line_of port_line
returns c = c.line_of_two.ensures
