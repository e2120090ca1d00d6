use Rattle.request.proofs.WordsCases.{laid_for}
use Rattle.request.proofs.settle.laying_for.Goals as goal

pub returns : goal.returns
returns c = search laid_for
