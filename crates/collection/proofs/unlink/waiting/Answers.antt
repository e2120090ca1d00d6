use Rattle.pipe.proofs.WordsKnown.{pipe_next_below}
use Rattle.collection.proofs.WordsCases.{tidy_waited, waited}
use Rattle.collection.proofs.WordsSlots.{own_fits, slot_room}
use Rattle.collection.proofs.unlink.waiting.Goals as goal

pub put_endpoint-requires-clause-slot_fits : goal.put_endpoint-requires-clause-slot_fits
put_endpoint-requires-clause-slot_fits c = own_fits c.args.core.settings c.args.core.rest c.args.slots.now c.requires.good c.args.k c.args.p c.args.r c.requires.own_request
    (pipe_next_below c.args.p _ c.well_formed.1.1.1.1.0) _ _ _ c.boundary_now-until.ensures c.requires.k_lt_endpoints.1

pub returns-clause-slots_after : goal.returns-clause-slots_after
returns-clause-slots_after c = waited c.args.core.settings c.args.core.rest c.args.slots.now _ c.requires.good c.args.k c.requires.k_lt_endpoints.0 c.args.p c.args.r
    c.requires.own_request (pipe_next_below c.args.p _ c.well_formed.1.1.1.1.0) c.requires.k_lt_endpoints.1 c.args.readings _ c.boundary_now-until.ensures c.put_endpoint.ensures

pub returns-clause-tidy : goal.returns-clause-tidy
returns-clause-tidy c = tidy_waited c.args.core.settings c.args.core.rest c.args.slots.now _ c.requires.good c.args.k c.requires.k_lt_endpoints.0 c.args.p c.args.r
    c.requires.own_request (pipe_next_below c.args.p _ c.well_formed.1.1.1.1.0) c.requires.k_lt_endpoints.1 c.args.readings _ c.boundary_now-until.ensures c.put_endpoint.ensures
