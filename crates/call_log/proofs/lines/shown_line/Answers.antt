use Rattle.call_log.specs.Lines.{line_of, said, said_line, shown_line}
use Rattle.call_log.proofs.lines.shown_line.Goals as goal

pub returns : goal.returns
unfolding said_line said line_of shown_line
returns c = c.of.ensures
