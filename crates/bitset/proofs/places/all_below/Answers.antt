use Rattle.bitset.specs.Places.{all_below}
use Rattle.bitset.proofs.places.all_below.Goals as goal

pub returns : goal.returns
unfolding all_below
returns c = cc
