use Rattle.ehci.specs.WordsDecides.{laid_only}
use Rattle.ehci.proofs.reply.laid.Goals as goal

pub returns : goal.returns
unfolding laid_only
returns c = cc
