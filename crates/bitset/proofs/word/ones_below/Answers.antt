use Prim.Native.Nat.{◌*◌, ◌%◌, ◌^◌, min}
use mathlib.Core.Path.{◌≡◌}
use native.Mathlib.Omega.{arith}
use lib.Pow.{pow_pos}
use Rattle.bitset.specs.Words.{ones_below}
use Rattle.bitset.proofs.BitLaws.{shifted}
use Rattle.bitset.proofs.word.ones_below.Goals as goal

pub returns-then-n-ge64 : goal.returns-then-n-ge64
unfolding ones_below
returns-then-n-ge64 c = let m : min c.args.n 64 ≡ 64 = omega arith in rw m

pub returns-else-n-ge64 : goal.returns-else-n-ge64
unfolding ones_below
returns-else-n-ge64 c = let m : min c.args.n 64 ≡ c.args.n = omega arith in rw (m, shifted c.args.n c.if-n-ge64.false)
