use Rattle.schedule.specs.Links.{attached_ring}
use native.Mathlib.Omega.{arith}
use lib.ListN.{length-set}
use mathlib.Core.Path.{refl}
use Rattle.schedule.proofs.links.attach_ring.Goals as goal

pub returns : goal.returns
unfolding attached_ring
returns c = refl
