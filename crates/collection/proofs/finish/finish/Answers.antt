use Rattle.pipe.proofs.WordsKnown.{pipe_next_below}
use Rattle.collection.proofs.WordsCases.{finishes_words, tidy_finished}
use Rattle.collection.proofs.WordsSlots.{finish_fits, unlinking_room, unlinking_room_after}
use Rattle.collection.proofs.finish.finish.Goals as goal

pub places_at-requires : goal.places_at-requires
places_at-requires c = search unlinking_room

pub put_endpoint-requires-clause-k_in_bounds : goal.put_endpoint-requires-clause-k_in_bounds
put_endpoint-requires-clause-k_in_bounds c = search unlinking_room

pub put_endpoint-requires-clause-slot_fits : goal.put_endpoint-requires-clause-slot_fits
put_endpoint-requires-clause-slot_fits c = finish_fits c.args.core.settings c.args.core.rest c.args.slots.now c.requires.good c.args.k c.args.p c.args.r c.args.b
    c.requires.k_value (pipe_next_below c.args.p _ c.well_formed.1.1.1.1.0) _ _ c.with_toggle-kept.ensures

pub put_places-requires : goal.put_places-requires
put_places-requires c = search unlinking_room_after

pub returns-clause-slots_after : goal.returns-clause-slots_after
returns-clause-slots_after c = finishes_words c.args.core.settings c.args.core.rest c.args.slots.now c.requires.good c.args.k c.args.p c.args.r c.args.b
    c.requires.k_value (pipe_next_below c.args.p _ c.well_formed.1.1.1.1.0) c.args.overlay _ _ c.kept_toggle.ensures c.with_toggle-kept.ensures _ _
    c.put_endpoint.ensures c.put_places.ensures _ c.args.seen _ _ c.outcome_of.ensures c.none.ensures.value

pub returns-clause-tidy : goal.returns-clause-tidy
returns-clause-tidy c = tidy_finished c.args.core.settings c.args.core.rest c.args.slots.now c.requires.good c.args.k c.args.p c.args.r c.args.b
    c.requires.k_value (pipe_next_below c.args.p _ c.well_formed.1.1.1.1.0) c.args.overlay _ _ c.kept_toggle.ensures c.with_toggle-kept.ensures _ _
    c.put_endpoint.ensures c.put_places.ensures _ _ c.places_at.ensures c.with-rest.ensures
