use mathlib.Core.Path.{refl}
use Rattle.bitset.specs.Places.{with_of}
use Rattle.bitset.proofs.places.with.Goals as goal

pub returns : goal.returns
unfolding with_of
returns c = refl
