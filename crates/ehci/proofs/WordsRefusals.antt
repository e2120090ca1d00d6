-- Over words a call is that of the state that they stand for, but for the refusals by range.
use mathlib.Core.Path.{refl}
use Rattle.ehci.specs.Replies.{refused_reply, replied}
use Rattle.ehci.specs.WordsDoor.{apply_words}
use Rattle.ehci.specs.WordsRefusals.{RefusalsByRange}

pub refusals_by_range : RefusalsByRange
unfolding apply_words refused_reply replied
refusals_by_range c ws pool heads frames setups call = record { accepted = λ e. rw e refl; refused = λ e. rw e refl }
