use Rattle.opening.specs.Words.{accepted_words}
use Rattle.opening.proofs.open.accept.Goals as goal

pub returns : goal.returns
unfolding accepted_words
returns c = rw (c.fresh_rest.ensures, c.new.ensures)
