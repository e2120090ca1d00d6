use Rattle.std.specs.Prelude.{◌+◌, ◌*◌}
use native.Mathlib.Omega.{arith}
use Rattle.common.proofs.ResultLaws.{passed_on}
use Rattle.endpoint.proofs.WordsChange.{sizing_done, sizing_fits, sizing_refused, sizing_tidy, words_slot_room, words_word}
use Rattle.endpoint.proofs.calls.set_packet_size.Goals as goal

pub bounds-heads-at-2 : goal.bounds-heads-at-2
bounds-heads-at-2 c = words_word c.args.core.settings c.args.core.rest c.args.slots.now c.requires.good c.args.heads.now c.requires.heads_len c.args.slot _ _ c.check_slot.ensures c.in_ok-check_slot.was

pub bounds-heads-at : goal.bounds-heads-at
bounds-heads-at c = words_word c.args.core.settings c.args.core.rest c.args.slots.now c.requires.good c.args.heads.now c.requires.heads_len c.args.slot _ _ c.check_slot.ensures c.in_ok-check_slot.was

pub put_endpoint-requires : goal.put_endpoint-requires
put_endpoint-requires c =
    let told = c.in_ok-check_slot.was in record {
      k_in_bounds = words_slot_room c.args.core.settings c.args.core.rest c.args.slots.now c.requires.good c.args.heads.now c.requires.heads_len c.args.slot _ _ c.check_slot.ensures told;
      slot_fits = sizing_fits c.args.slots.now c.args.slot c.args.size _ _ c.pipe_at.ensures
          c.resize-pipe.ensures (omega arith)
          (omega (arith, c.slice_known-1.given (6 * c.args.slot + 1)));
    }

pub returns : goal.returns
returns c =
    let told = c.in_ok-check_slot.was in
    let below = c.slice_known-1.given (6 * c.args.slot + 1) in record {
      by_index = sizing_done c.args.core.settings c.args.core.rest c.args.slots.now c.requires.good c.args.heads.now c.requires.heads_len c.args.slot _
          c.args.size _ _ c.pipe_at.ensures c.resize-pipe.ensures _
          c.pipe_good.ensures c.check_slot.ensures told
          (omega arith) (omega (arith, below)) _ c.put_endpoint.ensures _ c.set_max_packet_size.ensures;
      tidy = sizing_tidy c.args.core.settings c.args.core.rest c.args.slots.now c.requires.good c.args.heads.now c.requires.heads_len c.args.slot _
          c.args.size _ _ c.pipe_at.ensures c.resize-pipe.ensures _
          c.pipe_good.ensures c.check_slot.ensures told
          (omega arith) (omega (arith, below)) _ c.put_endpoint.ensures;
    }

pub returns-in_err-check_slot-clause-by_index : goal.returns-in_err-check_slot-clause-by_index
returns-in_err-check_slot-clause-by_index c = sizing_refused c.args.core.settings c.args.core.rest c.args.slots.now c.requires.good c.args.heads.now c.requires.heads_len c.args.slot _
    c.args.size _ _ c.pipe_at.ensures c.resize-pipe.ensures _
    c.pipe_good.ensures c.check_slot.ensures _
    c.in_err-check_slot.was _ (passed_on _ _ _ (λ x p. p) c.from_residual.ensures.1)
