use mathlib.Core.Path.{refl}
use Rattle.opening.specs.Words.{slots_fit}
use Rattle.opening.proofs.open.slots_fit.Goals as goal

pub returns : goal.returns
unfolding slots_fit
returns c = refl
