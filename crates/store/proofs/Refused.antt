-- A call on a state outside its ranges, or that is lent rows of other lengths, answers 1 and leaves all as it was.
use Rattle.std.specs.Prelude.{◌≡◌, ℕ, Bool, true, false, List, length, Err}
use Rattle.common.specs.declared.answer.Refusal.TheVariants.{InvalidParameter}
use Rattle.descriptor.specs.declared.qtd.QueueTransferDescriptor.{QueueTransferDescriptor as Record}
use Rattle.pool.specs.declared.chain.View.{View}
use Rattle.state.specs.Plain.{Ehci}
use Rattle.state.specs.Ranges.{in_ranges}
use Rattle.opening.specs.Opening.{rows_are_fit}
use Rattle.controller.specs.Address.{allot_of}
use Rattle.controller.specs.Lent.{accepts_of}
use Rattle.endpoint.specs.Calls.{clear_halt_of, close_of, open_checks, open_endpoint_of, set_address_of, set_packet_size_of, slot_checks}
use Rattle.request.specs.Submit.{refused_submit, settled_submit, submit_of}
use Rattle.request.specs.Writeback.{refused_writeback, writeback_of}
use Rattle.collection.specs.Calls.{cancel_of, collect_of}
use Rattle.bring_up.specs.BringUp.{start_of, step_of}
use Rattle.interrupt.specs.Interrupts.{acknowledge_of, disable_of, drain_of, enable_of, rearm_of}
use Rattle.ehci.specs.declared.call.Call.{Call}
use Rattle.ehci.specs.declared.call.Call.TheVariants.{StartBringUp, BringUpStep, AllocateAddress, OpenEndpoint, Close, SetAddress, SetPacketSize, Submit, Writeback, Cancel, Collect, Acknowledge, Drain, Rearm, Enable, Disable, ClearHalt}
use Rattle.ehci.specs.Decides.{acknowledge_decided, address_decided, allot_decided, call_of, cancel_decided, clear_decided, close_decided, collect_decided, decide_of, drain_decided, open_decided, packet_decided, submit_decided, writeback_decided}
use Rattle.ehci.specs.Door.{apply_of}
use Rattle.ehci.specs.Refusals.{refused_world}
use Rattle.ehci.specs.Replies.{brought_reply, changed_reply, refused_reply, replied, settled_reply}
use Rattle.ehci.proofs.Refusals.{refusals}

module _ (s : Ehci) (pool : List Record) (heads frames setups : List ℕ) where
  abbrev fits : Bool
  fits = rows_are_fit s.settings (length pool) (length heads) (length frames) (length setups)

  module _ (v : View) (fit : fits ≡ true) (out : in_ranges s ≡ false) where
    -- whatever the call, the ranges are asked first
    call_refused : (c : Call) → (call_of s (length pool) heads frames setups v c).decided.reply.answer ≡ Err InvalidParameter
    unfolding start_of step_of brought_reply allot_of allot_decided open_decided open_endpoint_of open_checks close_decided close_of slot_checks address_decided set_address_of packet_decided set_packet_size_of clear_decided clear_halt_of changed_reply submit_decided submit_of settled_submit refused_submit writeback_decided writeback_of refused_writeback cancel_decided cancel_of collect_decided collect_of acknowledge_decided acknowledge_of drain_decided drain_of settled_reply rearm_of enable_of disable_of replied accepts_of
    call_refused StartBringUp = rw out
    call_refused (BringUpStep w) = rw out
    call_refused AllocateAddress = rw out
    call_refused (OpenEndpoint x) = rw (fit, out)
    call_refused (Close k) = rw (fit, out)
    call_refused (SetAddress k a) = rw (fit, out)
    call_refused (SetPacketSize k size) = rw (fit, out)
    call_refused (Submit k t readings) = rw (fit, out)
    call_refused (Writeback place token) = rw (fit, out)
    call_refused (Cancel k id readings) = rw (fit, out)
    call_refused (Collect k id readings) = rw (fit, out)
    call_refused (Acknowledge x) = rw out
    call_refused (Drain w) = rw out
    call_refused Rearm = rw out
    call_refused Enable = rw out
    call_refused Disable = rw out
    call_refused (ClearHalt k) = rw out

  module _ (c : Call) where
    abbrev Left : Type 0
    Left = apply_of s pool heads frames setups c ≡ refused_world s pool heads frames setups InvalidParameter

    pub outside_refused : fits ≡ true → in_ranges s ≡ false → Left
    unfolding apply_of decide_of
    outside_refused fit out = refusals s pool heads frames setups c InvalidParameter (rw fit (call_refused _ fit out c))

    pub unfit_refused : fits ≡ false → Left
    unfolding apply_of decide_of refused_reply replied
    unfit_refused fit = refusals s pool heads frames setups c InvalidParameter (rw fit)
