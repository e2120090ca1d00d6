-- The doorbell's invariant lasts where a request is unlinked; so it lasts through every effect, and holds in every world of a run.
use Prim.Native.Nat.{ℕ, suc, ◌+◌, ◌<◌}
use mathlib.Core.Bool.{Bool, true, false, cond, true≢false, false≢true}
use mathlib.Core.List.{◌∷◌}
use mathlib.Core.Logic.{◌⊎◌, inl, inr}
use mathlib.Core.Path.{◌≡◌, refl, sym, ap, subst, ◌∙◌}
use lib.Dec.{eqb}
use Rattle.register.specs.Writes.{list_of, no_writes}
use Rattle.register.specs.declared.writes.Writes.{Writes}
use Rattle.settings.specs.declared.settings.Settings.{Settings}
use Rattle.common.specs.declared.kinds.EndpointType.{EndpointType}
use Rattle.common.specs.declared.kinds.EndpointType.TheVariants.{Control, Isochronous, Bulk, Interrupt}
use Rattle.state.specs.Slots.{with_slot}
use Rattle.state.specs.State.{with_bell}
use Rattle.state.specs.Plain.{Ehci}
use Rattle.pipe.specs.Endpoints.{endpoint_at, with_endpoint}
use Rattle.common.specs.Kinds.{is_interrupt}
use Rattle.pipe.specs.declared.endpoints.Endpoint.{Endpoint}
use Rattle.pipe.specs.declared.endpoints.Endpoint.TheVariants.{Linked, Unlinking}
use Rattle.pipe.specs.declared.endpoints.Request.{Request}
use Rattle.pipe.specs.declared.endpoints.UnlinkBoundary.TheVariants.{Async, Periodic}
use Rattle.pipe.proofs.EndpointLaws.{Suits, bell_wide, endpoint_other, endpoint_same}
use Rattle.schedule.specs.Bell.{bell_of, frame_of, unlinked_of, some_ring}
use Rattle.schedule.specs.declared.bell.Rung.{Rung}
use Rattle.controller.specs.declared.lent.Readings.{Readings}
use Rattle.collection.specs.Calls.{marked}
use Rattle.collection.specs.Unlinks.{asked_of, bounded_of, waiting_for, waiting_of}
use Rattle.collection.specs.declared.unlink.Bounded.{Bounded}
use Rattle.ehci.specs.declared.call.Call.{Call}
use Rattle.ehci.specs.Door.{Applied}
use Rattle.promises.specs.Runs.{History, Turn, World, turn_of}
use Rattle.promises.specs.Events.{Unlinks, Parts, event, rings}
use Rattle.promises.specs.Bells.{is_drains, is_reads, is_unlinks}
use Rattle.promises.proofs.effects.Effects.{Effect, Unlinked}
use Rattle.promises.proofs.invariants.Sound.{Sound}
use Rattle.promises.proofs.invariants.BellWaiting.{waits_for}
use Rattle.promises.proofs.invariants.BellSlots.{Joined, Slot, aside_parts, aside_unlinks}
use Rattle.promises.proofs.invariants.BellInvariant.{BellInv, one_inv, unlink_counted, unlink_inv}
use Rattle.promises.proofs.invariants.BellFacts.{bell_aside, silent_none, unlink_doorbell, unlink_noted, unlink_rings, unlink_unanswered}
use Rattle.promises.proofs.invariants.BellTurns.{apart_now_lem, going_now}
use Rattle.promises.proofs.invariants.BellSteps.{StateInv, accepts_step, aside_of, calm, clears_step, closes_step, collects_step, counts_step, hears_step, joins_step, marks_step, opens_step, passes_step, resizes_step, rewrites_step, slot_is, still_step, within, writes_back_step}

-- "boundary": a count for every kind but interrupt
counts_advances : (k : EndpointType) → is_interrupt k ≡ false → (b : _) (readings : Readings) → (bounded_of b k readings ≡ asked_of b readings.command) × ((n : ℕ) → Suits k (Async n))
unfolding bounded_of
counts_advances Control e b readings = (refl, λ n. tt)
counts_advances Isochronous e b readings = (refl, λ n. tt)
counts_advances Bulk e b readings = (refl, λ n. tt)
counts_advances Interrupt e b readings = absurd (true≢false e)

interrupt_is : (k : EndpointType) → is_interrupt k ≡ true → Interrupt ≡ k
interrupt_is Control e = absurd (false≢true e)
interrupt_is Isochronous e = absurd (false≢true e)
interrupt_is Bulk e = absurd (false≢true e)
interrupt_is Interrupt e = refl

-- the event of an unlink, by the kind of the request
abbrev pub Named : Settings → (w : World) (c : Call) (a : Applied) → Unlinked w c a → Type 0
Named s w c a x = event s (turn_of w.rows c a) ≡ cond (is_interrupt x.p.kind) (Parts x.k x.readings.frame) (Unlinks x.k)

module _ (s : Settings) (w : World) (c : Call) (a : Applied) (h : History) (sound : Sound s w) (g : StateInv s h w.state) (x : Unlinked w c a) (named : Named s w c a x) where
  abbrev old : Ehci
  old = w.state

  abbrev t : Turn
  t = turn_of w.rows c a

  abbrev Next : Ehci → Type 0
  Next e = StateInv s (t ∷ h) e

  known : x.k < 32
  known = within s w c a h sound g x.k (Linked x.p x.r) x.linked refl

  here : Joined s x.k h x.p x.r
  here = slot_is s w c a h sound g x.k (Linked x.p x.r) x.linked

  pub same_id : x.asked.id ≡ x.r.id
  same_id = go x.same_request
    where
      go : (x.asked ≡ x.r) ⊎ (x.asked ≡ marked x.r) → x.asked.id ≡ x.r.id
      go (inl e) = ap (λ (r : Request). r.id) e
      go (inr e) = ap (λ (r : Request). r.id) e

  -- ---- by advances

  module _ (kind : is_interrupt x.p.kind ≡ false) where
    abbrev rung : Rung
    rung = unlinked_of (bell_of old) no_writes x.readings.command

    abbrev base : Ehci
    base = with_bell old rung.bell.noted rung.bell.doorbell rung.bell.unanswered

    abbrev waits : Endpoint
    waits = Unlinking x.p x.asked (Async (old.unanswered + 1))

    abbrev pub after : Ehci
    after = with_endpoint base x.k waits

    pub bounded : bounded_of (bell_of old) x.p.kind x.readings ≡ asked_of (bell_of old) x.readings.command
    bounded = (counts_advances x.p.kind kind (bell_of old) x.readings).0

    pub e : event s t ≡ Unlinks x.k
    e = named ∙ ap (λ (b : Bool). cond b (Parts x.k x.readings.frame) (Unlinks x.k)) kind

    pub mine : endpoint_at after x.k ≡ waits
    mine = endpoint_same base x.k waits (bell_wide old rung.bell.noted rung.bell.doorbell rung.bell.unanswered sound.wide) known ((counts_advances x.p.kind kind (bell_of old) x.readings).1 (old.unanswered + 1))

    pub others : (j : ℕ) → (j ≡ x.k → ⊥) → endpoint_at after j ≡ endpoint_at old j
    others j ne = endpoint_other base x.k waits j ne ∙ bell_aside old rung.bell.noted rung.bell.doorbell rung.bell.unanswered j

    was : (v : ℕ) → waits_for v (endpoint_at old x.k) ≡ false
    was v = ap (waits_for v) x.linked

    now : (v : ℕ) → waits_for v (endpoint_at after x.k) ≡ eqb (old.unanswered + 1) v
    now v = ap (waits_for v) mine

    pub rang : rings t ≡ eqb old.doorbell 0
    unfolding waiting_of
    rang =
        ap (λ (y : Writes). some_ring (list_of y)) (x.writes_are ∙ ap (λ (b : Bounded). b.rung.writes) bounded)
        ∙ unlink_rings (bell_of old) x.readings.command sound.ranges.doorbell_flag

    got : BellInv s (t ∷ h) old.noted 1 (old.unanswered + 1) old.pending (endpoint_at after)
    got =
        unlink_inv s h old.noted old.doorbell old.unanswered old.pending (endpoint_at old) (endpoint_at after) g x.k known others was now
        t (ap is_reads e) (ap is_drains e) (ap is_unlinks e) rang
        (subst (Slot s x.k (t ∷ h) (old.unanswered + 1)) (sym mine)
        (going_now s x.k t h e x.p x.r x.asked here same_id kind old.unanswered g.owing
        (unlink_counted s h old.noted old.doorbell old.unanswered old.pending (endpoint_at old) (endpoint_at after) g x.k known others was now t (ap is_reads e) (ap is_drains e) (ap is_unlinks e) rang)))
        (λ j ne. aside_of s w c a h sound g j (Unlinks x.k) e (aside_unlinks j x.k ne))

    by_advances : Next a.reply.state
    unfolding waiting_of with_endpoint with_slot with_bell
    by_advances =
        subst Next (sym (x.state_is ∙ ap (λ (b : Bounded). (waiting_for old x.k x.p x.asked b).state) bounded))
        (subst (λ (n : ℕ). BellInv s (t ∷ h) n rung.bell.doorbell rung.bell.unanswered old.pending (endpoint_at after)) (sym (unlink_noted (bell_of old) x.readings.command sound.ranges.doorbell_flag))
        (subst (λ (d : ℕ). BellInv s (t ∷ h) old.noted d rung.bell.unanswered old.pending (endpoint_at after)) (sym (unlink_doorbell (bell_of old) x.readings.command sound.ranges.doorbell_flag))
        (subst (λ (u : ℕ). BellInv s (t ∷ h) old.noted 1 u old.pending (endpoint_at after)) (sym (unlink_unanswered (bell_of old) x.readings.command sound.ranges.doorbell_flag)) got)))

  -- ---- by frames

  module _ (kind : is_interrupt x.p.kind ≡ true) where
    abbrev waits_frames : Endpoint
    waits_frames = Unlinking x.p x.asked (Periodic (frame_of x.readings.frame))

    abbrev pub apart : Ehci
    apart = with_endpoint (with_bell old old.noted old.doorbell old.unanswered) x.k waits_frames

    pub ep : event s t ≡ Parts x.k x.readings.frame
    ep = named ∙ ap (λ (b : Bool). cond b (Parts x.k x.readings.frame) (Unlinks x.k)) kind

    pub bounded_frames : bounded_of (bell_of old) x.p.kind x.readings ≡ record { boundary = Periodic (frame_of x.readings.frame); rung = record { bell = bell_of old; writes = no_writes } }
    unfolding bounded_of
    bounded_frames = ap (λ (k : EndpointType). bounded_of (bell_of old) k x.readings) (sym (interrupt_is x.p.kind kind))

    pub quiet_frames : rings t ≡ false
    unfolding waiting_of
    quiet_frames = ap (λ (y : Writes). some_ring (list_of y)) (x.writes_are ∙ ap (λ (b : Bounded). b.rung.writes) bounded_frames) ∙ silent_none

    pub mine_frames : endpoint_at apart x.k ≡ waits_frames
    mine_frames =
        endpoint_same (with_bell old old.noted old.doorbell old.unanswered) x.k waits_frames (bell_wide old old.noted old.doorbell old.unanswered sound.wide) known
        (subst (λ (k : EndpointType). Suits k (Periodic (frame_of x.readings.frame))) (interrupt_is x.p.kind kind) tt)

    pub others_frames : (j : ℕ) → (j ≡ x.k → ⊥) → endpoint_at apart j ≡ endpoint_at old j
    others_frames j ne = endpoint_other (with_bell old old.noted old.doorbell old.unanswered) x.k waits_frames j ne ∙ bell_aside old old.noted old.doorbell old.unanswered j

    by_frames : Next a.reply.state
    unfolding waiting_of with_endpoint with_slot with_bell
    by_frames =
        subst Next (sym (x.state_is ∙ ap (λ (b : Bounded). (waiting_for old x.k x.p x.asked b).state) bounded_frames))
        (one_inv s t h (calm s w c a h sound g (Parts x.k x.readings.frame) ep refl refl refl quiet_frames)
        old.noted old.doorbell old.unanswered old.pending old.pending (endpoint_at old) (endpoint_at apart) g g.pend x.k waits_frames
        mine_frames others_frames
        (λ v. ap (waits_for (suc v)) (sym x.linked))
        (apart_now_lem s x.k t h x.readings.frame ep x.p x.r x.asked here same_id kind)
        (λ j ne. aside_of s w c a h sound g j (Parts x.k x.readings.frame) ep (aside_parts j x.k ne x.readings.frame)))

  pub unlinks_step : Next a.reply.state
  unlinks_step = go (is_interrupt x.p.kind) refl
    where
      go : (b : Bool) → is_interrupt x.p.kind ≡ b → Next a.reply.state
      go true e = by_frames e
      go false e = by_advances e

-- ---- every effect

pub bells_keep : (s : Settings) (w : World) (c : Call) (a : Applied) (h : History) → Sound s w → StateInv s h w.state
    → Effect w c a → ((x : Unlinked w c a) → Named s w c a x) → StateInv s (turn_of w.rows c a ∷ h) a.reply.state
bells_keep s w c a h sound g (Effect.still x) named = still_step s w c a h sound g x
bells_keep s w c a h sound g (Effect.hears x) named = hears_step s w c a h sound g x
bells_keep s w c a h sound g (Effect.joins x) named = joins_step s w c a h sound g x
bells_keep s w c a h sound g (Effect.passes x) named = passes_step s w c a h sound g x
bells_keep s w c a h sound g (Effect.counts x) named = counts_step s w c a h sound g x
bells_keep s w c a h sound g (Effect.opens x) named = opens_step s w c a h sound g x
bells_keep s w c a h sound g (Effect.closes x) named = closes_step s w c a h sound g x
bells_keep s w c a h sound g (Effect.rewrites x) named = rewrites_step s w c a h sound g x
bells_keep s w c a h sound g (Effect.resizes x) named = resizes_step s w c a h sound g x
bells_keep s w c a h sound g (Effect.accepts x) named = accepts_step s w c a h sound g x
bells_keep s w c a h sound g (Effect.writes_back x) named = writes_back_step s w c a h sound g x
bells_keep s w c a h sound g (Effect.clears x) named = clears_step s w c a h sound g x
bells_keep s w c a h sound g (Effect.marks x) named = marks_step s w c a h sound g x
bells_keep s w c a h sound g (Effect.unlinks x) named = unlinks_step s w c a h sound g x (named x)
bells_keep s w c a h sound g (Effect.collects x) named = collects_step s w c a h sound g x
