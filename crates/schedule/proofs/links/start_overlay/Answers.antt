use Rattle.schedule.specs.Links.{started_overlay}
use native.Mathlib.Omega.{arith}
use lib.ListN.{length-set}
use mathlib.Core.Path.{refl}
use Rattle.schedule.proofs.links.start_overlay.Goals as goal

pub returns : goal.returns
unfolding started_overlay
returns c = refl
