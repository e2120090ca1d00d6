use mathlib.Core.Path.{refl}
use lib.Bits.{and_le_l}
use Rattle.bitset.specs.Words.{cleared_of}
use Rattle.bitset.proofs.word.cleared.Goals as goal

pub returns : goal.returns
unfolding cleared_of
returns c = refl
