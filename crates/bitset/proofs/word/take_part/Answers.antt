use native.Mathlib.Omega.{arith}
use Rattle.bitset.proofs.PlaceLaws.{drop_le}
use Rattle.bitset.proofs.PartLaws.{part_all, part_some}
use Rattle.bitset.proofs.word.take_part.Goals as goal

pub returns-then-have-n : goal.returns-then-have-n
returns-then-have-n c = (part_all _ _ c.ranges.x.fits _ c.number-have.ensures.0 c.if-have-n.true, c.ranges.x.fits)

pub overflow_sub-result-2 : goal.overflow_sub-result-2
overflow_sub-result-2 c = omega (arith, c.drop_low-rest.ensures, drop_le 64 c.args.x c.args.n)

pub returns : goal.returns
returns c = (part_some _ _ c.ranges.x.fits _ c.number-have.ensures.0 _ (omega arith) c.drop_low-rest.ensures, c.ranges.x.fits)
