use Rattle.ehci.specs.WordsDecides.{marked_only}
use Rattle.ehci.proofs.reply.marked.Goals as goal

pub returns : goal.returns
unfolding marked_only
returns c = cc
