use Rattle.request.specs.Words.{refused_words}
use Rattle.request.proofs.submit.refuse.Goals as goal

pub returns : goal.returns
unfolding refused_words
returns c = cc
