use mathlib.Core.Path.{refl}
use Rattle.bitset.specs.Rest.{next_of}
use Rattle.bitset.proofs.cursor.next_word.Goals as goal

pub returns : goal.returns
unfolding next_of
returns c = refl
