use Rattle.call_log.specs.Lines.{line_of, said, said_line, record_line}
use Rattle.call_log.proofs.lines.record_line.Goals as goal

pub returns : goal.returns
unfolding said_line said line_of record_line
returns c = c.of.ensures
