use Rattle.settings.proofs.Nothing.{zeros_are}
use Rattle.opening.specs.Words.{blank_core, refused_words}
use Rattle.opening.proofs.open.refuse.Goals as goal

pub returns : goal.returns
unfolding refused_words blank_core
returns c = rw (c.fresh_rest.ensures, c.new.ensures, zeros_are c.default.result c.default.ensures)
