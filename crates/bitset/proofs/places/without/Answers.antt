use Rattle.bitset.specs.Places.{without_of}
use Rattle.bitset.proofs.places.without.Goals as goal

pub returns : goal.returns
unfolding without_of
returns c = cc
