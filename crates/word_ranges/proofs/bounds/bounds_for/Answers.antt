use mathlib.Core.Path.{refl}
use Rattle.word_ranges.specs.Bounds.{bounds_of}
use Rattle.word_ranges.proofs.bounds.bounds_for.Goals as goal

pub returns : goal.returns
unfolding bounds_of
returns c = refl
