use Rattle.words.specs.Opened.{opened_rest}
use Rattle.opening.proofs.open.fresh_rest.Goals as goal

pub returns : goal.returns
unfolding opened_rest
returns c = rw c.all_below.ensures
