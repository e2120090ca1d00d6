use Rattle.call_log.specs.Words.{shown_in}
use Rattle.call_log.proofs.lines.shown.Goals as goal

pub returns : goal.returns
unfolding shown_in
returns c = rw c.free_count.ensures
