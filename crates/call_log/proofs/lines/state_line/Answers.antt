use mathlib.Core.Path.{ap, ◌∙◌}
use Rattle.call_log.specs.Lines.{shown_line}
use Rattle.call_log.proofs.lines.state_line.Goals as goal

pub returns : goal.returns
returns c = c.shown_line.ensures ∙ ap shown_line c.shown.ensures
