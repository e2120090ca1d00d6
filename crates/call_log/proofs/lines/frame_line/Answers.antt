use Rattle.call_log.specs.Lines.{line_of, said, said_line, frame_line}
use Rattle.call_log.proofs.lines.frame_line.Goals as goal

pub returns : goal.returns
unfolding said_line said line_of frame_line
returns c = c.line_of_three.ensures
