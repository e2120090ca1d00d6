use Rattle.request.proofs.WordsCases.{accepted_words_lem}
use Rattle.request.proofs.settle.accepted.Goals as goal

pub returns : goal.returns
returns c = search accepted_words_lem
