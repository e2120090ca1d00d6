use mathlib.Core.Path.{ap}
use Rattle.call_log.specs.Lines.{said_line}
use Rattle.call_log.proofs.LineCases.{three_more}
use Rattle.call_log.proofs.call_line.line_with.Goals as goal

pub returns : goal.returns
returns c = rw (c.of.ensures, c.copy_from_slice.ensures.after) (ap (said_line 67) (three_more _ _ _ _ _))
