use Rattle.word_ranges.specs.Bounds.{sizes_of}
use Rattle.word_ranges.proofs.bounds.sizes_for.Goals as goal

pub returns : goal.returns
unfolding sizes_of
returns c = rw c.min-most.ensures
