use mathlib.Core.Path.{◌≡◌, sym, ap, ◌∙◌}
use native.Mathlib.Omega.{arith}
use Rattle.bitset.specs.Words.{drop_bits}
use Rattle.bitset.proofs.PlaceLaws.{drop_none}
use Rattle.bitset.proofs.PartLaws.{drop_turn}
use Rattle.bitset.proofs.word.drop_low.Goals as goal

pub loop-init : goal.loop-init
loop-init c = sym (drop_none 64 c.args.x c.ranges.x.fits)

pub loop-preserved : goal.loop-preserved
loop-preserved c = drop_turn _ _ _ _ c.ranges.x.fits c.requires c.loop-test.true c.loop.invariant _ c.drop_lowest-rest.ensures
