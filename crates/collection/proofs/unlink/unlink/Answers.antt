use Rattle.collection.proofs.WordsCases.{tidy_refused_cancel, unlinks_none, unlinks_waits}
use Rattle.collection.proofs.WordsSlots.{own_framed}
use borrow.Author.Rules.{rules}
use Rattle.collection.proofs.unlink.unlink.Goals as goal

pub is_lost-requires-clause-kind_value : goal.is_lost-requires-clause-kind_value
is_lost-requires-clause-kind_value c = search own_framed

pub returns-then-is_lost-clause-frames_after : goal.returns-then-is_lost-clause-frames_after
returns-then-is_lost-clause-frames_after c = search unlinks_none

pub returns-clause-frames_after : goal.returns-clause-frames_after
returns-clause-frames_after c = search unlinks_waits
