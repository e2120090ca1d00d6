use Rattle.collection.proofs.WordsCalls.{collects_closed, collects_crowded, collects_ends, collects_idle, collects_looks, collects_other, collects_wrong}
use Rattle.collection.proofs.WordsCases.{tidy_pending, tidy_refused_collect}
use Rattle.collection.proofs.WordsSlots.{read_is}
use borrow.Author.Rules.{rules}
use Rattle.collection.proofs.calls.collect.Goals as goal

pub returns-then-unanswered-ge-UNLINKS-clause-by_index : goal.returns-then-unanswered-ge-UNLINKS-clause-by_index
returns-then-unanswered-ge-UNLINKS-clause-by_index c = λ pool setups fit. search collects_crowded

pub returns-then-own-id-clause-by_index : goal.returns-then-own-id-clause-by_index
returns-then-own-id-clause-by_index c = λ pool setups fit. search collects_wrong

pub returns-then-own-id-2-clause-by_index : goal.returns-then-own-id-2-clause-by_index
returns-then-own-id-2-clause-by_index c = λ pool setups fit. search collects_other

pub returns-in-Closed-clause-by_index : goal.returns-in-Closed-clause-by_index
returns-in-Closed-clause-by_index c = λ pool setups fit. search collects_closed

pub returns-in-Idle-clause-by_index : goal.returns-in-Idle-clause-by_index
returns-in-Idle-clause-by_index c = λ pool setups fit. search collects_idle

pub returns-else-own-id-clause-by_index : goal.returns-else-own-id-clause-by_index
returns-else-own-id-clause-by_index c = λ pool setups fit.
    collects_looks c.args.core.settings c.args.core.rest c.args.slots.now c.requires.good c.args.heads.now c.args.frames.now pool setups fit
    c.args.readings c.args.slot c.args.id _ c.endpoint_at.ensures c.args.seen _ _ _ _ _ _
    c.in-Linked.is c.collect_linked.ensures.frames_after
    c.if-unanswered-ge-UNLINKS.false c.if-own-id.false

pub returns-else-own-id-2-clause-by_index : goal.returns-else-own-id-2-clause-by_index
returns-else-own-id-2-clause-by_index c = λ pool setups fit.
    collects_ends c.args.core.settings c.args.core.rest c.args.slots.now c.requires.good c.args.heads.now c.args.frames.now pool setups fit
    c.args.readings c.args.slot c.args.id _ c.endpoint_at.ensures c.args.seen _ _ _ _ _ _
    c.in-Unlinking.is c.collect_unlinking.ensures.heads_after
    c.if-own-id-2.false
