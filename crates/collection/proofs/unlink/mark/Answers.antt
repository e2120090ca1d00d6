use Rattle.pipe.proofs.WordsKnown.{pipe_next_below}
use Rattle.collection.proofs.WordsCases.{marks_words, tidy_marked}
use Rattle.collection.proofs.WordsSlots.{mark_fits, unlinking_room}
use borrow.Author.Rules.{rules}
use Rattle.collection.proofs.unlink.mark.Goals as goal

pub put_endpoint-requires-clause-k_in_bounds : goal.put_endpoint-requires-clause-k_in_bounds
put_endpoint-requires-clause-k_in_bounds c = search unlinking_room

pub put_endpoint-requires-clause-slot_fits : goal.put_endpoint-requires-clause-slot_fits
put_endpoint-requires-clause-slot_fits c = search (mark_fits, rules)

pub returns-clause-slots_after : goal.returns-clause-slots_after
returns-clause-slots_after c = marks_words c.args.core.settings c.args.core.rest c.args.slots.now c.requires.good c.args.k c.args.p c.args.r c.args.b c.requires.k_value
    (pipe_next_below c.args.p _ c.well_formed.1.1.1.0) _ _ c.marked.ensures c.put_endpoint.ensures _ c.none.ensures.value

pub returns-clause-tidy : goal.returns-clause-tidy
returns-clause-tidy c = tidy_marked c.args.core.settings c.args.core.rest c.args.slots.now c.requires.good c.args.k c.args.p c.args.r c.args.b c.requires.k_value
    (pipe_next_below c.args.p _ c.well_formed.1.1.1.0) _ _ c.marked.ensures c.put_endpoint.ensures
