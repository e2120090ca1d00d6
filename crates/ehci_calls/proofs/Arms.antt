-- Each of the fourteen calls that are made directly is its arm of `apply`, for any result that meets its contract.
use Rattle.std.specs.Prelude.{ℕ, List, Bool, ⊤}
use mathlib.Core.Path.{refl}
use Rattle.common.specs.declared.answer.Refusal.TheVariants.{InvalidParameter}
use Rattle.words.specs.declared.cores.Core.{Core}
use Rattle.words.specs.View.{view}
use Rattle.controller.specs.Address.{allot_of}
use Rattle.controller.specs.Words.{allotted_view}
use Rattle.controller.specs.declared.lent.Readings.{Readings}
use Rattle.endpoint.specs.Calls.{change_left, clear_halt_of, close_of, open_endpoint_of, open_left, set_address_of, set_packet_size_of}
use Rattle.endpoint.specs.Words.{changed_view, opened_view}
use Rattle.collection.specs.Calls.{cancel_of}
use Rattle.collection.specs.Unlinks.{left}
use Rattle.collection.specs.Words.{cancelled_view, refused_cancel_words}
use Rattle.interrupt.specs.Interrupts.{acknowledge_of, disable_of, drain_of, enable_of, rearm_of}
use Rattle.interrupt.specs.Words.{acknowledged_view, drained_view, settled_view}
use Rattle.bring_up.specs.BringUp.{start_of, step_of}
use Rattle.bring_up.specs.Words.{brought_view, refused_words}
use Rattle.bring_up.specs.declared.answers.BroughtUp.{BroughtUp}
use Rattle.direct_calls.specs.Refusals.{refused_acknowledgement, refused_allotment, refused_change, refused_drainage, refused_endpoint, refused_settled}
use Rattle.direct_calls.specs.Shapes.{CoreCall, FramesCall, HeadsCall, SlotsCall}
use Rattle.ehci.specs.declared.call.Call.TheVariants.{StartBringUp, BringUpStep, AllocateAddress, OpenEndpoint, Close, SetAddress, SetPacketSize, Cancel, Acknowledge, Drain, Rearm, Enable, Disable, ClearHalt}
use Rattle.ehci.specs.declared.call.EndpointFields.{EndpointFields}
use Rattle.ehci.specs.declared.call.InterruptReadings.{InterruptReadings}
use Rattle.ehci.specs.Decides.{acknowledge_decided, acknowledge_reply, address_decided, allot_decided, allot_reply, cancel_came, cancel_decided, change_came, clear_decided, close_decided, drain_decided, drain_reply, open_came, open_decided, packet_decided}
use Rattle.ehci.specs.Replies.{brought_reply, changed_reply, settled_reply}
use Rattle.ehci.specs.WordsDecides.{brought_words, changed_words, settled_words}
use Rattle.ehci_calls.specs.Arms.{CoreArm, FramesArm, HeadsArm, SlotsArm, acknowledged_reply, allotted_reply, cancelled_reply, drained_reply, opened_reply}
use Rattle.ehci_calls.proofs.ArmLaws.{core_is_apply, frames_is_apply, heads_is_apply, slots_is_apply}
use Rattle.controller.specs.declared.left.Left.{Left}
use Rattle.controller.specs.declared.left.Settled.{Settled}
use Rattle.interrupt.specs.declared.answers.Event.{Event}

module _ (c : Core) where
  -- ---- bringing up

  pub start_is_apply : (ws : List ℕ) (r : BroughtUp)
      → SlotsCall c ws ws r (refused_words c.rest InvalidParameter) r.rest (brought_view c.settings r ws) start_of
      → SlotsArm c ws ws StartBringUp (brought_words r).reply
  unfolding brought_reply
  start_is_apply ws r does =
      slots_is_apply c r _ _ StartBringUp (λ x. (brought_words x).reply) refl ws ws _ start_of brought_reply does (λ s n hs fs us v. refl) refl

  pub step_is_apply : (r : BroughtUp) (reading : ℕ)
      → CoreCall c r (refused_words c.rest InvalidParameter) r.rest (brought_view c.settings r) (λ s. step_of s reading)
      → CoreArm c (BringUpStep reading) (brought_words r).reply
  unfolding brought_reply
  step_is_apply r reading does =
      core_is_apply c r _ _ (BringUpStep reading) (λ x. (brought_words x).reply) refl _ (λ s. step_of s reading) brought_reply does (λ s n hs fs us v. refl) (λ ws. refl)

  -- ---- endpoints

  pub allocate_is_apply : (r : (Left ℕ))
      → CoreCall c r (refused_allotment c.rest) r.rest (allotted_view c.settings r) allot_of
      → CoreArm c AllocateAddress (allotted_reply r)
  unfolding allot_decided
  allocate_is_apply r does =
      core_is_apply c r _ _ AllocateAddress (λ x. allotted_reply x) refl _ allot_of allot_reply does (λ s n hs fs us v. refl) (λ ws. refl)

  module _ (ws ws' heads heads' : List ℕ) where
    pub open_is_apply : (r : (Left ℕ)) (x : EndpointFields)
        → HeadsCall c ws ws' heads heads' r (refused_endpoint c.rest) r.rest (open_left (opened_view c.settings r ws') heads')
        (λ pool frames setups. open_endpoint_of (view c ws) pool heads frames setups x.kind x.address x.number x.packet)
        → HeadsArm c ws ws' heads heads' (OpenEndpoint x) (opened_reply r)
    unfolding open_decided
    open_is_apply r x does =
        heads_is_apply c r _ _ (OpenEndpoint x) (λ x. opened_reply x) refl ws ws' _ heads heads' _ open_came does (λ n fs us v. refl) refl

    pub close_is_apply : (r : (Left ⊤)) (k : ℕ)
        → HeadsCall c ws ws' heads heads' r (refused_change c.rest) r.rest (change_left (changed_view c.settings r ws') heads')
        (λ pool frames setups. close_of (view c ws) pool heads frames setups k)
        → HeadsArm c ws ws' heads heads' (Close k) (changed_words r).reply
    unfolding close_decided changed_reply
    close_is_apply r k does =
        heads_is_apply c r _ _ (Close k) (λ x. (changed_words x).reply) refl ws ws' _ heads heads' _ change_came does (λ n fs us v. refl) refl

    pub packet_is_apply : (r : (Left ⊤)) (k size : ℕ)
        → HeadsCall c ws ws' heads heads' r (refused_change c.rest) r.rest (change_left (changed_view c.settings r ws') heads')
        (λ pool frames setups. set_packet_size_of (view c ws) pool heads frames setups k size)
        → HeadsArm c ws ws' heads heads' (SetPacketSize k size) (changed_words r).reply
    unfolding packet_decided changed_reply
    packet_is_apply r k size does =
        heads_is_apply c r _ _ (SetPacketSize k size) (λ x. (changed_words x).reply) refl ws ws' _ heads heads' _ change_came does (λ n fs us v. refl) refl

  module _ (ws heads heads' : List ℕ) where
    pub address_is_apply : (r : (Left ⊤)) (k a : ℕ)
        → HeadsCall c ws ws heads heads' r (refused_change c.rest) r.rest (change_left (changed_view c.settings r ws) heads')
        (λ pool frames setups. set_address_of (view c ws) pool heads frames setups k a)
        → HeadsArm c ws ws heads heads' (SetAddress k a) (changed_words r).reply
    unfolding address_decided changed_reply
    address_is_apply r k a does =
        heads_is_apply c r _ _ (SetAddress k a) (λ x. (changed_words x).reply) refl ws ws _ heads heads' _ change_came does (λ n fs us v. refl) refl

  pub clear_is_apply : (ws ws' : List ℕ) (r : (Left ⊤)) (k : ℕ)
      → SlotsCall c ws ws' r (refused_change c.rest) r.rest (changed_view c.settings r ws') (λ s. clear_halt_of s k)
      → SlotsArm c ws ws' (ClearHalt k) (changed_words r).reply
  unfolding clear_decided changed_reply
  clear_is_apply ws ws' r k does =
      slots_is_apply c r _ _ (ClearHalt k) (λ x. (changed_words x).reply) refl ws ws' _ (λ s. clear_halt_of s k) changed_reply does (λ s n hs fs us v. refl) refl

  -- ---- requests

  pub cancel_is_apply : (ws ws' heads heads' frames frames' : List ℕ) (r : (Settled ⊤)) (readings : Readings) (k id : ℕ)
      → FramesCall c ws ws' heads heads' frames frames' r (refused_cancel_words c.rest InvalidParameter) r.rest
      (left (cancelled_view c.settings r ws') heads' frames')
      (λ pool setups. cancel_of (view c ws) pool heads frames setups readings k id)
      → FramesArm c ws ws' heads heads' frames frames' (Cancel k id readings) (cancelled_reply r)
  unfolding cancel_decided
  cancel_is_apply ws ws' heads heads' frames frames' r readings k id does =
      frames_is_apply c r _ _ (Cancel k id readings) (λ x. cancelled_reply x) refl ws ws' _ heads heads' frames frames' _ cancel_came does (λ n us v. refl) refl

  -- ---- interrupts

  pub acknowledge_is_apply : (r : (Settled Bool)) (x : InterruptReadings)
      → CoreCall c r (refused_acknowledgement c.rest) r.rest (acknowledged_view c.settings r)
      (λ s. acknowledge_of s x.status x.interrupts x.flag x.again)
      → CoreArm c (Acknowledge x) (acknowledged_reply r)
  unfolding acknowledge_decided
  acknowledge_is_apply r x does =
      core_is_apply c r _ _ (Acknowledge x) (λ x. acknowledged_reply x) refl _ _ acknowledge_reply does (λ s n hs fs us v. refl) (λ ws. refl)

  pub drain_is_apply : (ws ws' : List ℕ) (r : (Settled Event)) (command : ℕ)
      → SlotsCall c ws ws' r (refused_drainage c.rest) r.rest (drained_view c.settings r ws') (λ s. drain_of s command)
      → SlotsArm c ws ws' (Drain command) (drained_reply r)
  unfolding drain_decided
  drain_is_apply ws ws' r command does =
      slots_is_apply c r _ _ (Drain command) (λ x. drained_reply x) refl ws ws' _ (λ s. drain_of s command) drain_reply does (λ s n hs fs us v. refl) refl

  module _ (r : (Settled ⊤)) where
    pub rearm_is_apply : CoreCall c r (refused_settled c.rest) r.rest (settled_view c.settings r) rearm_of
        → CoreArm c Rearm (settled_words r).reply
    unfolding settled_reply
    rearm_is_apply does =
        core_is_apply c r _ _ Rearm (λ x. (settled_words x).reply) refl _ rearm_of settled_reply does (λ s n hs fs us v. refl) (λ ws. refl)

    pub enable_is_apply : CoreCall c r (refused_settled c.rest) r.rest (settled_view c.settings r) enable_of
        → CoreArm c Enable (settled_words r).reply
    unfolding settled_reply
    enable_is_apply does =
        core_is_apply c r _ _ Enable (λ x. (settled_words x).reply) refl _ enable_of settled_reply does (λ s n hs fs us v. refl) (λ ws. refl)

    pub disable_is_apply : CoreCall c r (refused_settled c.rest) r.rest (settled_view c.settings r) disable_of
        → CoreArm c Disable (settled_words r).reply
    unfolding settled_reply
    disable_is_apply does =
        core_is_apply c r _ _ Disable (λ x. (settled_words x).reply) refl _ disable_of settled_reply does (λ s n hs fs us v. refl) (λ ws. refl)
