use Rattle.text.specs.Text.{hex}
use Rattle.call_log.specs.Lines.{line_of, said, said_line, setup_line}
use Rattle.call_log.proofs.lines.setup_line.Goals as goal

pub returns : goal.returns
unfolding said_line said line_of setup_line hex
returns c = c.of.ensures
