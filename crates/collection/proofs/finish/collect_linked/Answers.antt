use Rattle.collection.proofs.WordsCases.{linked_lost_words, linked_unlinks_words, linked_waits_words, tidy_pending, tidy_refused_collect}
use Rattle.collection.proofs.WordsSlots.{linked_within, own_framed, own_same}
use borrow.Author.Rules.{rules}
use Rattle.collection.proofs.finish.collect_linked.Goals as goal

pub returns-then-stands_active-clause-frames_after : goal.returns-then-stands_active-clause-frames_after
returns-then-stands_active-clause-frames_after c = search linked_waits_words

pub is_lost-requires-clause-k_lt_endpoints : goal.is_lost-requires-clause-k_lt_endpoints
is_lost-requires-clause-k_lt_endpoints c = (search linked_within, search rules, search rules)

pub is_lost-requires-clause-kind_value : goal.is_lost-requires-clause-kind_value
is_lost-requires-clause-kind_value c = search (own_framed, own_same)

pub returns-then-is_lost-clause-frames_after : goal.returns-then-is_lost-clause-frames_after
returns-then-is_lost-clause-frames_after c = search linked_lost_words

pub waiting-left-requires-clause-k_lt_endpoints : goal.waiting-left-requires-clause-k_lt_endpoints
waiting-left-requires-clause-k_lt_endpoints c = (search linked_within, search rules)

pub returns-clause-frames_after : goal.returns-clause-frames_after
returns-clause-frames_after c = search linked_unlinks_words
