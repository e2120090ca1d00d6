use Rattle.endpoint.proofs.WordsOpen.{opened_done, opened_fields, opened_fits, opened_head, opened_refused, opened_slot_room, opened_tidy}
use native.Mathlib.Omega.{arith}
use Rattle.common.proofs.ResultLaws.{passed_on}
use Rattle.endpoint.proofs.calls.open_endpoint.Goals as goal

pub write_head-requires-clause-slot_bound : goal.write_head-requires-clause-slot_bound
write_head-requires-clause-slot_bound c = opened_head c.args.core.settings c.args.core.rest c.args.slots.now c.requires.good c.args.heads.now c.requires.heads_len
    c.args.kind c.args.address c.args.number c.args.packet _ c.fields_good-good.ensures _
    c.choose.ensures _ c.in_ok-slot.was

pub write_head-requires-clause-address_bound : goal.write_head-requires-clause-address_bound
write_head-requires-clause-address_bound c = opened_fields c.args.core.settings c.args.core.rest c.args.slots.now c.requires.good c.args.heads.now c.requires.heads_len
    c.args.kind c.args.address c.args.number c.args.packet _ c.fields_good-good.ensures _
    c.choose.ensures _ c.in_ok-slot.was

pub put_endpoint-requires-clause-k_in_bounds : goal.put_endpoint-requires-clause-k_in_bounds
put_endpoint-requires-clause-k_in_bounds c = opened_slot_room c.args.core.settings c.args.core.rest c.args.slots.now c.requires.good c.args.heads.now c.requires.heads_len
    c.args.kind c.args.address c.args.number c.args.packet _ c.fields_good-good.ensures _
    c.choose.ensures _ c.in_ok-slot.was

pub put_endpoint-requires-clause-slot_fits : goal.put_endpoint-requires-clause-slot_fits
put_endpoint-requires-clause-slot_fits c = opened_fits c.args.core.settings c.args.core.rest c.args.slots.now c.requires.good c.args.heads.now c.requires.heads_len
    c.args.kind c.args.address c.args.number c.args.packet _ c.fields_good-good.ensures _
    c.choose.ensures _ c.in_ok-slot.was 1 (omega arith) (omega arith)

pub returns-clause-by_index : goal.returns-clause-by_index
returns-clause-by_index c = opened_done c.args.core.settings c.args.core.rest c.args.slots.now c.requires.good c.args.heads.now c.requires.heads_len
    c.args.kind c.args.address c.args.number c.args.packet _ c.fields_good-good.ensures _
    c.choose.ensures _ c.in_ok-slot.was _ c.put_endpoint.ensures _ c.write_head.ensures

pub returns-clause-tidy : goal.returns-clause-tidy
returns-clause-tidy c = opened_tidy c.args.core.settings c.args.core.rest c.args.slots.now c.requires.good c.args.heads.now c.requires.heads_len
    c.args.kind c.args.address c.args.number c.args.packet _ c.fields_good-good.ensures _
    c.choose.ensures _ c.in_ok-slot.was _ c.put_endpoint.ensures

pub returns-in_err-slot-clause-by_index : goal.returns-in_err-slot-clause-by_index
returns-in_err-slot-clause-by_index c = opened_refused c.args.core.settings c.args.core.rest c.args.slots.now c.requires.good c.args.heads.now c.requires.heads_len
    c.args.kind c.args.address c.args.number c.args.packet _ c.fields_good-good.ensures _
    c.choose.ensures _ c.in_err-slot.was _ (passed_on _ _ _ (λ x p. p) c.from_residual.ensures.1)
