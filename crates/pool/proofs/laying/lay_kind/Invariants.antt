use Rattle.std.proofs.Common.{◌≡◌, ◌+◌, length}
use Rattle.bitset.specs.Places.{Within, set_places}
use Rattle.bitset.specs.Rest.{rest_of}
use Rattle.pool.specs.Plain as Deeds
use Rattle.pool.specs.Chains.{filled_from}
use Rattle.pool.specs.Words.{laid_of}
use Rattle.pool.proofs.laying.lay_kind.Given as goal

abbrev pub invariant-loop-l : goal.invariant-loop-l
invariant-loop-l g l = record {
  long : length l.rows ≡ length l.initial.rows;
  counted : l.k + length (rest_of l.at) ≡ length (set_places l.l.places);
  within : Within (length l.initial.rows) (rest_of l.at);
  whole : filled_from (Deeds.Transfer l.l.transfer) l.l.base l.k (rest_of l.at) l.rows ≡ laid_of l.l l.initial.rows;
}

abbrev pub decreases-loop-l : goal.decreases-loop-l
decreases-loop-l g l = length (rest_of l.at)
