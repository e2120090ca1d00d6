use native.Mathlib.Omega.{arith}
use lib.Count.{trailing_le}
use Rattle.bitset.specs.Rest.{place_at}
use Rattle.bitset.proofs.cursor.place_at.Goals as goal

pub returns : goal.returns
unfolding place_at
returns c = (rw c.lowest.ensures, omega (arith, c.lowest.ensures, trailing_le 64 c.args.c.word))
