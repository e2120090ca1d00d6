use Rattle.schedule.proofs.WordsCases.{precedes_word_is, same_is}
use Rattle.schedule.proofs.links.precedes.Goals as goal

pub returns : goal.returns
returns c = precedes_word_is _ _ _ _ _ _ _ (same_is _ _)
