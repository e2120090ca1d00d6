use Rattle.common.proofs.ResultLaws.{passed_on}
use Rattle.pipe.proofs.WordsFits.{closed_fits}
use Rattle.endpoint.proofs.WordsChange.{closing_done, closing_refused, closing_tidy, words_head, words_slot_room}
use Rattle.endpoint.proofs.calls.close.Goals as goal

pub put_head-requires-clause-place_bound : goal.put_head-requires-clause-place_bound
put_head-requires-clause-place_bound c = (
    words_head c.args.core.settings c.args.core.rest c.args.slots.now c.requires.good c.args.heads.now c.requires.heads_len
    c.args.slot _ _ c.check_slot.ensures c.in_ok-check_slot.was).0

pub put_head-requires-clause-place_in_bounds : goal.put_head-requires-clause-place_in_bounds
put_head-requires-clause-place_in_bounds c = (
    words_head c.args.core.settings c.args.core.rest c.args.slots.now c.requires.good c.args.heads.now c.requires.heads_len
    c.args.slot _ _ c.check_slot.ensures c.in_ok-check_slot.was).1

pub put_endpoint-requires-clause-k_in_bounds : goal.put_endpoint-requires-clause-k_in_bounds
put_endpoint-requires-clause-k_in_bounds c = words_slot_room c.args.core.settings c.args.core.rest c.args.slots.now c.requires.good c.args.heads.now
    c.requires.heads_len c.args.slot _ _ c.check_slot.ensures c.in_ok-check_slot.was

pub put_endpoint-requires-clause-slot_fits : goal.put_endpoint-requires-clause-slot_fits
put_endpoint-requires-clause-slot_fits c = closed_fits

pub returns-clause-by_index : goal.returns-clause-by_index
returns-clause-by_index c = closing_done c.args.core.settings c.args.core.rest c.args.slots.now c.requires.good c.args.heads.now c.requires.heads_len
    c.args.slot _ c.check_slot.ensures c.in_ok-check_slot.was _ c.put_endpoint.ensures _ c.put_head.ensures

pub returns-clause-tidy : goal.returns-clause-tidy
returns-clause-tidy c = closing_tidy c.args.core.settings c.args.core.rest c.args.slots.now c.requires.good c.args.heads.now c.requires.heads_len
    c.args.slot _ c.check_slot.ensures c.in_ok-check_slot.was _ c.put_endpoint.ensures

pub returns-in_err-check_slot-clause-by_index : goal.returns-in_err-check_slot-clause-by_index
returns-in_err-check_slot-clause-by_index c = closing_refused c.args.core.settings c.args.core.rest c.args.slots.now c.requires.good c.args.heads.now c.requires.heads_len
    c.args.slot _ c.check_slot.ensures _ c.in_err-check_slot.was _ (passed_on _ _ _ (λ x p. p) c.from_residual.ensures.1)
