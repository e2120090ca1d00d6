-- A cancelled request is collected as 10; a linked slot finds room; and what the state says is what the history says.
use Prim.Native.Nat.{ℕ, ◌+◌, ◌<◌}
use mathlib.Core.Bool.{Bool, true, false, cond, true≢false, false≢true}
use mathlib.Core.List.{List, [], ◌∷◌}
use mathlib.Core.Path.{◌≡◌, refl, sym, ap, subst, ◌∙◌}
use native.Mathlib.Omega.{arith}
use borrow.Author.Tests.{eq-eqb, eqb-true, lt-ltb, ne_eqb}
use lib.Dec.{eqb}
use lib.ListN.{length}
use Rattle.settings.specs.declared.settings.Settings.{Settings}
use Rattle.state.specs.Plain.{Ehci}
use Rattle.pipe.specs.Endpoints.{decoded, encoded, endpoint_at, flag_number, with_endpoint}
use Rattle.pipe.specs.declared.endpoints.Endpoint.{Endpoint}
use Rattle.pipe.specs.declared.endpoints.Endpoint.TheVariants.{Closed, Idle, Linked, Unlinking}
use Rattle.pipe.specs.declared.endpoints.Pipe.{Pipe}
use Rattle.pipe.specs.declared.endpoints.Request.{Request}
use Rattle.pipe.specs.declared.endpoints.UnlinkBoundary.{UnlinkBoundary}
use Rattle.pipe.specs.declared.endpoints.UnlinkBoundary.TheVariants.{Async, Periodic}
use Rattle.pipe.proofs.EndpointLaws.{Wide, bell_wide, flag_there, slot_same}
use Rattle.controller.specs.Readers.{has_endpoint, holds_request}
use Rattle.controller.specs.declared.lent.Readings.{Readings}
use Rattle.controller.proofs.ReaderLaws.{open_below}
use Rattle.collection.specs.Answers.{outcome_of}
use Rattle.collection.specs.Calls.{marked}
use Rattle.collection.specs.Unlinks.{Left, unlink_of, waiting_of}
use Rattle.collection.proofs.Splits.{cancel_split, unlink_split}
use Rattle.ehci.specs.declared.call.Call.{Call}
use Rattle.ehci.specs.declared.call.Call.TheVariants.{StartBringUp, BringUpStep, AllocateAddress, OpenEndpoint, Close, SetAddress, SetPacketSize, Submit, Writeback, Cancel, Collect, Acknowledge, Drain, Rearm, Enable, Disable, ClearHalt}
use Rattle.ehci.specs.Decides.{cancel_came, cancel_decided, with_setups}
use Rattle.ehci.specs.Door.{Applied, carried_out}
use Rattle.ehci.specs.Replies.{answered_number, collected_answer, replied}
use Rattle.promises.specs.Runs.{EveryRun, History, Opening, Turn, World, core, history_of, turn_of, world_of}
use Rattle.promises.specs.Events.{is_done}
use Rattle.promises.specs.Bells.{cancelled, cancels_by, linked, renews}
use Rattle.promises.specs.Boundaries.{CancelledAnswered, CancelledCollects, StateSays, Uncrowded}
use Rattle.promises.proofs.effects.EffectOf.{effect}
use Rattle.promises.proofs.effects.RefusalNumbers.{undone}
use Rattle.promises.proofs.theorems.ChainCancels.{Roomy}
use Rattle.promises.proofs.invariants.Sound.{Sound}
use Rattle.promises.proofs.invariants.BellWaiting.{fallen, waits_for}
use Rattle.promises.proofs.invariants.BellSlots.{Leaving, Slot}
use Rattle.promises.proofs.invariants.BellInvariant.{room}
use Rattle.promises.proofs.invariants.BellSteps.{StateInv}
use Rattle.promises.proofs.invariants.BellSummary.{Kept, Summary, summary}
use Rattle.promises.proofs.effects.EffectDoor.{through}
use Rattle.promises.proofs.theorems.BoundaryCalls.{collect_found}
use Rattle.promises.proofs.theorems.BoundaryCore.{bells_reached, exact, named}
use Rattle.promises.proofs.any_machine.BoundaryExact.{answered_cancelled}
use Rattle.common.proofs.TestLaws.{both_tells}

-- ---- the mark of a cancelled request

abbrev pub is_marked : Endpoint → Bool
is_marked Closed = false
is_marked (Idle p) = false
is_marked (Linked p r) = false
is_marked (Unlinking p r u) = r.cancelled

marked_holds : (x : Endpoint) → is_marked x ≡ true → holds_request x ≡ true
marked_holds Closed e = e
marked_holds (Idle p) e = e
marked_holds (Linked p r) e = refl
marked_holds (Unlinking p r u) e = refl

marked_falls : (x : Endpoint) → is_marked (fallen x) ≡ is_marked x
marked_falls Closed = refl
marked_falls (Idle p) = refl
marked_falls (Linked p r) = refl
marked_falls (Unlinking p r u) = refl

marked_kept : (x y : Endpoint) → Kept x y → is_marked x ≡ true → is_marked y ≡ true
marked_kept x y (Kept.same e) m = ap is_marked e ∙ m
marked_kept x y (Kept.bare a b) m = absurd (true≢false (sym (marked_holds x m) ∙ a))
marked_kept x y (Kept.marks p r u a b) m = ap is_marked b

-- an endpoint that is written has its mark
mark_at_lem : (s : Ehci) (k : ℕ) (p : Pipe) (r : Request) (u : UnlinkBoundary) → Wide s → k < 32 → is_marked (endpoint_at (with_endpoint s k (Unlinking p r u)) k) ≡ r.cancelled
unfolding endpoint_at with_endpoint decoded
mark_at_lem s k p r u wide h = rw (lt-ltb k 32 h, slot_same s k (encoded (Unlinking p r u)) wide h) (flag_there r.cancelled)

-- a cancel that is accepted leaves the request marked
module _ (w : World) (k id : ℕ) (rd : Readings) (wide : Wide w.state) where
  abbrev s : Ehci
  s = w.state

  abbrev Marks : Applied → Type 0
  Marks a = is_done a.reply.answer ≡ true → is_marked (endpoint_at a.reply.state k) ≡ true

  abbrev Cancels : Left → Type 0
  Cancels l = Marks (carried_out (with_setups (cancel_came l) w.rows.setups) w.rows.pool)

  below : (x : Endpoint) → endpoint_at s k ≡ x → has_endpoint x ≡ true → k < 32
  below x e h = open_below s k (ap has_endpoint e ∙ h)

  unlink_marks : (p : Pipe) (r : Request) → k < 32 → Cancels (unlink_of s w.rows.heads w.rows.frames rd k p (marked r))
  unfolding waiting_of replied
  unlink_marks p r h =
      unlink_split s w.rows.heads w.rows.frames rd k p (marked r) Cancels (λ e. absurd (false≢true e))
      (λ found e. mark_at_lem _ k p (marked r) _ (bell_wide s _ _ _ wide) h)

  pub cancel_marks : Marks (core w (Cancel k id rd))
  unfolding cancel_decided replied
  cancel_marks =
      through (λ _ _. Marks) w (Cancel k id rd) (λ e. absurd (false≢true e))
      (cancel_split s (length w.rows.pool) w.rows.heads w.rows.frames (length w.rows.setups) rd k id Cancels
      (λ x e. absurd (false≢true (sym (undone x) ∙ e)))
      (λ p r ok e few same. unlink_marks p r (below (Linked p r) e refl))
      (λ p r u ok e same q. mark_at_lem s k p (marked r) u wide (below (Unlinking p r u) e refl)))

abbrev pub MarkedInv : Settings → History → Ehci → Type 0
MarkedInv s h e = (k : ℕ) → cancelled s k h ≡ true → is_marked (endpoint_at e k) ≡ true

module _ (s : Settings) (w : World) (c : Call) (h : History) (sound : Sound s w) where
  abbrev a : Applied
  a = core w c

  abbrev t : Turn
  t = turn_of w.rows c a

  -- it is marked now
  marks_now : (k : ℕ) → cancels_by k c a.reply.answer ≡ true → is_marked (endpoint_at a.reply.state k) ≡ true
  marks_now k e = go c refl e
    where
      go : (d : Call) → c ≡ d → cancels_by k d a.reply.answer ≡ true → is_marked (endpoint_at a.reply.state k) ≡ true
      go StartBringUp q e = absurd (false≢true e)
      go (BringUpStep x) q e = absurd (false≢true e)
      go AllocateAddress q e = absurd (false≢true e)
      go (OpenEndpoint x) q e = absurd (false≢true e)
      go (Close j) q e = absurd (false≢true e)
      go (SetAddress j x) q e = absurd (false≢true e)
      go (SetPacketSize j x) q e = absurd (false≢true e)
      go (Submit j r x) q e = absurd (false≢true e)
      go (Writeback x y) q e = absurd (false≢true e)
      go (Cancel j id rd) q e =
          let b = both_tells (eqb j k) (is_done a.reply.answer) e in
          subst (λ (i : ℕ). is_marked (endpoint_at a.reply.state i) ≡ true) (eqb-true j k b.0)
          (subst (λ (d : Call). is_marked (endpoint_at (core w d).reply.state j) ≡ true) (sym q)
          (cancel_marks w j id rd sound.wide (subst (λ (d : Call). is_done (core w d).reply.answer ≡ true) q b.1)))
      go (Collect j id rd) q e = absurd (false≢true e)
      go (Acknowledge x) q e = absurd (false≢true e)
      go (Drain x) q e = absurd (false≢true e)
      go Rearm q e = absurd (false≢true e)
      go Enable q e = absurd (false≢true e)
      go Disable q e = absurd (false≢true e)
      go (ClearHalt j) q e = absurd (false≢true e)

  -- it stays marked
  stays_marked : Summary s w c a h → (k : ℕ) → renews s k t ≡ false → is_marked (endpoint_at w.state k) ≡ true → is_marked (endpoint_at a.reply.state k) ≡ true
  stays_marked (Summary.quiets x) k n m = marked_kept (endpoint_at w.state k) (endpoint_at a.reply.state k) (x.kept k) m
  stays_marked (Summary.answers x) k n m = ap is_marked (x.kept k) ∙ m
  stays_marked (Summary.advances x) k n m = ap is_marked (x.falls k) ∙ marked_falls (endpoint_at w.state k) ∙ m
  stays_marked (Summary.comes x) k n m = ap is_marked (x.others k (λ e. false≢true (ap is_marked (sym (ap (endpoint_at w.state) e ∙ x.was)) ∙ m))) ∙ m
  stays_marked (Summary.goes x) k n m = ap is_marked (x.others k (λ e. false≢true (ap is_marked (sym (ap (endpoint_at w.state) e ∙ x.was)) ∙ m))) ∙ m
  stays_marked (Summary.departs x) k n m = ap is_marked (x.others k (λ e. false≢true (ap is_marked (sym (ap (endpoint_at w.state) e ∙ x.was)) ∙ m))) ∙ m
  stays_marked (Summary.ends x) k n m = ap is_marked (x.others k (λ e. true≢false (sym (rw (x.event_is, eq-eqb x.k k (sym e))) ∙ n))) ∙ m

  pub marks_keep : Summary s w c a h → MarkedInv s h w.state → MarkedInv s (t ∷ h) a.reply.state
  unfolding cancelled
  marks_keep x g k e = go (cancels_by k c a.reply.answer) refl (renews s k t) refl e
    where
      go : (b : Bool) → cancels_by k c a.reply.answer ≡ b → (n : Bool) → renews s k t ≡ n → cond b true (cond n false (cancelled s k h)) ≡ true → is_marked (endpoint_at a.reply.state k) ≡ true
      go true eb n en e = marks_now k eb
      go false eb true en e = absurd (false≢true e)
      go false eb false en e = stays_marked x k en (g k e)

-- ---- a linked slot finds room: were its request to leave, there would be a number for it

module _ (s : Settings) (h : History) (e : Ehci) (g : StateInv s h e) (k : ℕ) where
  linked_room : (p : Pipe) (r : Request) → endpoint_at e k ≡ Linked p r → e.unanswered < 32
  linked_room p r at =
      room s h e.noted e.doorbell e.unanswered e.pending (endpoint_at e) gone g k (open_below e k (ap has_endpoint at))
      (λ j ne. rw (ne_eqb j k ne)) (λ v. ap (waits_for v) at) (λ v. rw (eq-eqb k k refl))
    where
      gone : ℕ → Endpoint
      gone j = cond (eqb j k) (Unlinking p r (Async (e.unanswered + 1))) (endpoint_at e j)

  leaves_off : (u : ℕ) (p : Pipe) (r : Request) (b : UnlinkBoundary) → Leaving s k h u p r b → linked s k h ≡ false
  leaves_off u p r (Async n) y = y.off
  leaves_off u p r (Periodic n) y = y.off

  has_room : linked s k h ≡ true → e.unanswered < 32
  has_room on = at (endpoint_at e k) refl (g.slot k)
    where
      at : (x : Endpoint) → endpoint_at e k ≡ x → Slot s k h e.unanswered x → e.unanswered < 32
      at Closed q y = absurd (false≢true (sym y.off ∙ on))
      at (Idle p) q y = absurd (false≢true (sym y.off ∙ on))
      at (Linked p r) q y = linked_room p r q
      at (Unlinking p r b) q y = absurd (false≢true (sym (leaves_off e.unanswered p r b y) ∙ on))

-- ---- of a run

outcome_marked : (b : Bool) (v : _) → b ≡ true → answered_number (collected_answer (outcome_of b v)) ≡ 10
unfolding outcome_of
outcome_marked true v e = refl
outcome_marked false v e = absurd (false≢true e)

pub marks_reached : (s : Settings) (w : World) → Opening s w → (cs : List Call) → MarkedInv s (history_of core w cs) (world_of core w cs).state
unfolding world_of history_of cancelled
marks_reached s w o [] k e = absurd (false≢true e)
marks_reached s w o (c ∷ cs) k e =
    let b = bells_reached s w o cs in
    let now = world_of core w cs in
    marks_keep s now c (history_of core w cs) b.0 (summary s now c (core now c) (history_of core w cs) b.0 b.1 (effect now c) (named s w o cs c)) (marks_reached s w o cs) k e

pub cancelled_collects : EveryRun CancelledCollects core
cancelled_collects s w o cs k id rd e done =
    let x = collect_found (world_of core w cs) k id rd done in
    ap answered_number x.answer_is ∙ outcome_marked x.r.cancelled _ (sym (ap is_marked x.unlinking) ∙ marks_reached s w o cs k e)

pub cancelled_answered : EveryRun CancelledAnswered core
cancelled_answered s w o = answered_cancelled core s w (exact s w o) (cancelled_collects s w o)

-- ---- what the state says

pub state_says : EveryRun StateSays core
state_says s w o cs =
    let b = bells_reached s w o cs in
    let r = b.0.ranges in (
      b.1.owing,
      r.unanswered_most,
      b.1.up,
      b.1.up ∙ ap flag_number b.1.owed,
      b.1.note,
      r.noted_most,
    )

pub uncrowded : EveryRun Uncrowded core
uncrowded s w o cs k on =
    let b = bells_reached s w o cs in
    omega (arith, b.1.owing, has_room s (history_of core w cs) (world_of core w cs).state b.1 k on)

-- so no unlink of a linked slot is refused for want of a number
pub roomy : Roomy
roomy s w o cs k p r at = linked_room s (history_of core w cs) (world_of core w cs).state (bells_reached s w o cs).1 k p r at
