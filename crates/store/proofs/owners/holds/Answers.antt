use Rattle.words.specs.View.{holds_bit}
use Rattle.store.proofs.owners.holds.Goals as goal

pub returns : goal.returns
unfolding holds_bit
returns c = rw c.word_in-word.ensures
