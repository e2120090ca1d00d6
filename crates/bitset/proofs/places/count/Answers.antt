use native.Mathlib.Omega.{arith}
use Rattle.bitset.specs.Places.{set_places}
use Rattle.bitset.proofs.PartLaws.{four_length}
use Rattle.bitset.proofs.places.count.Goals as goal

pub returns : goal.returns
unfolding set_places
returns c = (
  four_length _ _ _ _ 0
      c.number.ensures.2 c.number-2.ensures.2 c.number-3.ensures.2 c.number-4.ensures.2 _ _ _ _
      c.number.ensures.0 c.number-2.ensures.0 c.number-3.ensures.0 c.number-4.ensures.0,
  record {
    first = c.number.ensures.2;
    second = c.number-2.ensures.2;
    third = c.number-3.ensures.2;
    fourth = c.number-4.ensures.2;
  },
)
