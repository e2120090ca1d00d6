use Rattle.collection.proofs.WordsCases.{tidy_pending, unlinking_ends_words, unlinking_waits_words}
use Rattle.collection.proofs.WordsSlots.{unlinking_frame, unlinking_head}
use Rattle.collection.proofs.finish.collect_unlinking.Goals as goal

pub passed-requires : goal.passed-requires
passed-requires c = search unlinking_frame

pub returns-then-not-passed-clause-heads_after : goal.returns-then-not-passed-clause-heads_after
returns-then-not-passed-clause-heads_after c = search unlinking_waits_words

pub end_overlay-requires : goal.end_overlay-requires
end_overlay-requires c = search unlinking_head

pub returns-clause-heads_after : goal.returns-clause-heads_after
returns-clause-heads_after c = search unlinking_ends_words
