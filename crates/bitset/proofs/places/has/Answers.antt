use borrow.Author.Tests.{lt-ltb, le-ltb}
use Rattle.bitset.specs.Words.{bit}
use Rattle.bitset.specs.Places.{has_place}
use Rattle.bitset.proofs.places.has.Goals as goal

pub returns-then-place-ge256 : goal.returns-then-place-ge256
unfolding has_place
returns-then-place-ge256 c = rw (le-ltb c.args.place 256 c.if-place-ge256.true)

pub returns : goal.returns
unfolding has_place bit
returns c = rw (lt-ltb c.args.place 256 c.if-place-ge256.false)
