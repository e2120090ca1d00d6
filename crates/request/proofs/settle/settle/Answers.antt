use Rattle.request.proofs.WordsCases.{areas_below, rows_ready, settled, setup_room}
use Rattle.request.proofs.WordsSettle.{short_length, slot_room}
use Rattle.request.proofs.settle.settle.Goals as goal

pub link_rows-requires-clause-slot_in_bounds : goal.link_rows-requires-clause-slot_in_bounds
link_rows-requires-clause-slot_in_bounds c = (
    rows_ready c.args.core c.args.slots.now c.args.slot c.args.t _ _ _ c.requires.good c.requires.t_value c.requires.limit_value.0 c.requires.limit_value.1 c.lowest_places-places.ensures.1 c.lowest_places-places.ensures.0
    c.args.heads.now c.args.frames.now c.requires.heads_len.0 c.requires.heads_len.1).0

pub link_rows-requires-clause-in_bounds : goal.link_rows-requires-clause-in_bounds
link_rows-requires-clause-in_bounds c = (
    rows_ready c.args.core c.args.slots.now c.args.slot c.args.t _ _ _ c.requires.good c.requires.t_value c.requires.limit_value.0 c.requires.limit_value.1 c.lowest_places-places.ensures.1 c.lowest_places-places.ensures.0
    c.args.heads.now c.args.frames.now c.requires.heads_len.0 c.requires.heads_len.1).1

pub put_setup-requires : goal.put_setup-requires
put_setup-requires c =
    setup_room c.args.core.settings c.args.core.rest c.args.slots.now c.args.slot c.args.t c.requires.good c.requires.t_value c.args.setups.now c.requires.heads_len.2

pub id_at-id-requires : goal.id_at-id-requires
id_at-id-requires c =
    slot_room c.args.core.settings c.args.core.rest c.args.slots.now c.args.slot c.args.t c.requires.good c.requires.t_value

pub put_request-requires : goal.put_request-requires
put_request-requires c =
    (slot_room c.args.core.settings c.args.core.rest c.args.slots.now c.args.slot c.args.t c.requires.good c.requires.t_value, short_length c.args.core.settings c.args.core.rest c.args.slots.now c.args.slot c.args.t c.requires.good c.requires.t_value)

pub accepted-requires : goal.accepted-requires
accepted-requires c =
    areas_below c.args.core.settings c.args.core.rest c.args.slots.now c.args.slot c.args.t c.requires.good c.requires.t_value

pub returns-clause-setups_after : goal.returns-clause-setups_after
returns-clause-setups_after c = (
    let p = c.lowest_places-places in
    settled c.args.core c.args.slots.now c.args.slot c.args.t _ _ _ c.requires.good c.requires.t_value c.requires.limit_value.0 c.requires.limit_value.1 p.ensures.1 p.ensures.0
    c.args.readings _ _ c.accepted.ensures _ c.id_at-id.ensures c.put_request.ensures.slot_fits c.put_request.ensures.slots_after
    c.args.heads.now c.args.frames.now c.args.setups.now _ _ _ _ c.toggle_at.ensures c.link_rows.ensures c.put_setup.ensures).0

pub returns-clause-tidy : goal.returns-clause-tidy
returns-clause-tidy c = (
    let p = c.lowest_places-places in
    settled c.args.core c.args.slots.now c.args.slot c.args.t _ _ _ c.requires.good c.requires.t_value c.requires.limit_value.0 c.requires.limit_value.1 p.ensures.1 p.ensures.0
    c.args.readings _ _ c.accepted.ensures _ c.id_at-id.ensures c.put_request.ensures.slot_fits c.put_request.ensures.slots_after
    c.args.heads.now c.args.frames.now c.args.setups.now _ _ _ _ c.toggle_at.ensures c.link_rows.ensures c.put_setup.ensures).1.0

pub returns-clause-laying_good : goal.returns-clause-laying_good
returns-clause-laying_good c = (
    let p = c.lowest_places-places in
    settled c.args.core c.args.slots.now c.args.slot c.args.t _ _ _ c.requires.good c.requires.t_value c.requires.limit_value.0 c.requires.limit_value.1 p.ensures.1 p.ensures.0
    c.args.readings _ _ c.accepted.ensures _ c.id_at-id.ensures c.put_request.ensures.slot_fits c.put_request.ensures.slots_after
    c.args.heads.now c.args.frames.now c.args.setups.now _ _ _ _ c.toggle_at.ensures c.link_rows.ensures c.put_setup.ensures).1.1
