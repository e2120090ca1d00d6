use Rattle.std.specs.Prelude.{◌+◌, ◌*◌}
use native.Mathlib.Omega.{arith}
use Rattle.common.proofs.ResultLaws.{passed_on}
use Rattle.endpoint.proofs.WordsClear.{clearing_done, clearing_fits, clearing_refused, clearing_room, clearing_tidy}
use Rattle.endpoint.proofs.calls.clear_halt.Goals as goal

pub put_endpoint-requires-clause-k_in_bounds : goal.put_endpoint-requires-clause-k_in_bounds
put_endpoint-requires-clause-k_in_bounds c = clearing_room c.args.core.settings c.args.core.rest c.args.slots.now c.requires c.args.slot _
    c.check_slot.ensures c.in_ok-check_slot.was

pub put_endpoint-requires-clause-slot_fits : goal.put_endpoint-requires-clause-slot_fits
put_endpoint-requires-clause-slot_fits c = clearing_fits c.args.slots.now c.args.slot _ _ c.pipe_at-old.ensures c.with_toggle.ensures
    (omega (arith, c.slice_known-1.given (6 * c.args.slot + 1)))

pub returns : goal.returns
returns c =
    let below = c.slice_known-1.given (6 * c.args.slot + 1) in record {
      slots_after = clearing_done c.args.core.settings c.args.core.rest c.args.slots.now c.requires c.args.slot _
          c.check_slot.ensures c.in_ok-check_slot.was _ _ c.pipe_at-old.ensures c.with_toggle.ensures
          (omega (arith, below)) _ c.put_endpoint.ensures;
      tidy = clearing_tidy c.args.core.settings c.args.core.rest c.args.slots.now c.requires c.args.slot _
          c.check_slot.ensures c.in_ok-check_slot.was _ _ c.pipe_at-old.ensures c.with_toggle.ensures
          (omega (arith, below)) _ c.put_endpoint.ensures;
    }

pub returns-in_err-check_slot-clause-slots_after : goal.returns-in_err-check_slot-clause-slots_after
returns-in_err-check_slot-clause-slots_after c = clearing_refused c.args.core.settings c.args.core.rest c.args.slots.now c.requires c.args.slot _
    c.check_slot.ensures _ c.in_err-check_slot.was _ (passed_on _ _ _ (λ x p. p) c.from_residual.ensures.1)

pub returns-in_err-check_slot-clause-tidy : goal.returns-in_err-check_slot-clause-tidy
returns-in_err-check_slot-clause-tidy c = c.requires.tidy
