use Rattle.bitset.specs.Places.{Words}
use Rattle.bitset.proofs.PartLaws.{lowest_parts}
use Rattle.bitset.proofs.places.lowest_places.Goals as goal

pub returns : goal.returns
returns c = let f : Words c.args.w =
    record {
      first = c.take_part-a.ensures.1;
      second = c.take_part-b.ensures.1;
      third = c.take_part-c.ensures.1;
      fourth = c.take_part-d.ensures.1;
    } in (
      lowest_parts _ _ f _ _ _ _
          c.take_part-a.ensures.0 c.take_part-b.ensures.0 c.take_part-c.ensures.0 c.take_part-d.ensures.0,
      f,
    )
