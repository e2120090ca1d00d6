use Rattle.opening.specs.Hub.{opened_hub}
use mathlib.Core.Path.{refl}
use Rattle.opening.proofs.hub.EhciRootHub.new.Goals as goal

pub returns : goal.returns
unfolding opened_hub
returns c = refl
