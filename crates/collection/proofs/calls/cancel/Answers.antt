use Rattle.collection.proofs.WordsCalls.{cancels_closed, cancels_crowded, cancels_idle, cancels_marks, cancels_other, cancels_unlinks, cancels_wrong}
use Rattle.collection.proofs.WordsCases.{tidy_refused_cancel}
use Rattle.collection.proofs.WordsSlots.{own_marked, read_is, read_linked_within}
use borrow.Author.Rules.{rules}
use Rattle.collection.proofs.calls.cancel.Goals as goal

pub returns-then-unanswered-ge-UNLINKS-clause-by_index : goal.returns-then-unanswered-ge-UNLINKS-clause-by_index
returns-then-unanswered-ge-UNLINKS-clause-by_index c = λ pool setups fit. search cancels_crowded

pub returns-then-own-id-clause-by_index : goal.returns-then-own-id-clause-by_index
returns-then-own-id-clause-by_index c = λ pool setups fit. search cancels_wrong

pub unlink-requires-clause-k_lt_endpoints : goal.unlink-requires-clause-k_lt_endpoints
unlink-requires-clause-k_lt_endpoints c = (search read_linked_within, search rules)

pub returns-then-own-id-2-clause-by_index : goal.returns-then-own-id-2-clause-by_index
returns-then-own-id-2-clause-by_index c = λ pool setups fit. search cancels_other

pub returns-in-Closed-clause-by_index : goal.returns-in-Closed-clause-by_index
returns-in-Closed-clause-by_index c = λ pool setups fit. search cancels_closed

pub returns-in-Idle-clause-by_index : goal.returns-in-Idle-clause-by_index
returns-in-Idle-clause-by_index c = λ pool setups fit. search cancels_idle

pub returns-else-own-id-clause-by_index : goal.returns-else-own-id-clause-by_index
returns-else-own-id-clause-by_index c = λ pool setups fit.
    cancels_unlinks c.args.core.settings c.args.core.rest c.args.slots.now c.requires.good c.args.heads.now c.args.frames.now pool setups fit
    c.args.readings c.args.slot c.args.id _ c.endpoint_at.ensures _ _ _ _ _ _ _
    c.in-Linked.is c.marked.ensures c.unlink.ensures.frames_after
    c.if-unanswered-ge-UNLINKS.false c.if-own-id.false

pub returns-else-own-id-2-clause-by_index : goal.returns-else-own-id-2-clause-by_index
returns-else-own-id-2-clause-by_index c = λ pool setups fit. search cancels_marks
