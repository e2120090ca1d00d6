-- Every register write of this port, from the history; what is pending, masked and enabled; and which turns ring.
use Rattle.std.specs.Prelude.{Result}
use Prim.Native.Nat.{ℕ, zero, suc, ◌+◌, ◌-◌}
use mathlib.Core.Bool.{Bool, true, false, ◌&&◌, not, cond, true≢false}
use mathlib.Core.List.{List, [], ◌∷◌}
use mathlib.Core.Path.{◌≡◌, refl, sym, ap, subst, ◌∙◌}
use native.Mathlib.Omega.{arith}
use borrow.Author.Tests.{le-ltb, leb-false, leb-true, lt-ltb}
use lib.Dec.{eqb, leb, ltb}
use lib.ListN.{length}
use Rattle.register.specs.Bits.{any_of}
use Rattle.settings.specs.declared.settings.Settings.{Settings}
use Rattle.state.specs.Ranges.{in_ranges}
use Rattle.state.proofs.RangesLaws.{ranges_make}
use Rattle.pipe.specs.Endpoints.{endpoint_at, flag_number}
use Rattle.pipe.specs.declared.endpoints.Endpoint.{Endpoint}
use Rattle.pipe.specs.declared.endpoints.Endpoint.TheVariants.{Closed, Idle, Linked, Unlinking}
use Rattle.opening.specs.Opening.{fresh_state}
use Rattle.controller.specs.Readers.{holds_request}
use Rattle.interrupt.specs.Interrupts.{acknowledge_of, counted_of, disable_of, drain_if, drain_of, enable_of, heard_if, rearm_if, rearm_of, cleared_of}
use Rattle.ehci.specs.declared.call.Call.{Call}
use Rattle.ehci.specs.declared.call.Call.TheVariants.{Acknowledge, Drain, Rearm, Enable, Disable}
use Rattle.ehci.specs.declared.call.InterruptReadings.{InterruptReadings}
use Rattle.ehci.specs.Decides.{acknowledge_decided, acknowledge_reply, call_of, decide_of, drain_decided, drain_reply}
use Rattle.ehci.specs.Door.{apply_of}
use Rattle.ehci.specs.Replies.{answered_number, answered_values, replied, settled_reply}
use Rattle.promises.specs.Runs.{EveryRun, History, Opening, Turn, World, core, history_of, moment, turn_of, world_of}
use Rattle.promises.specs.Events.{Event, Drains, Reads, Unlinks, event, is_done, rings}
use Rattle.promises.specs.Bells.{Answered as AnsweredBell, Bell, Quiet, Rung, asked, bell, counted, is_up}
use Rattle.promises.specs.Registers.{Access, InterruptsAnswered, Kept, QuietBringUp, RegistersTied, RingsInTurn, StatusAcknowledged, WritesExactly, access_of, acknowledged, event_in, flag_in, is_left, masked_after, masked_in, pending_after, pending_in, read_after, read_in, ring, ringing, rings_by, step_writes, usbintr, writes_for}
use Rattle.promises.proofs.effects.EffectOf.{effect}
use Rattle.promises.proofs.effects.EffectDoor.{seen}
use Rattle.promises.proofs.invariants.Reached.{opening_is}
use Rattle.promises.proofs.invariants.Sound.{Sound, rows_fit}
use Rattle.promises.proofs.invariants.BellInvariant.{Calm}
use Rattle.promises.proofs.invariants.BellSteps.{StateInv}
use Rattle.promises.proofs.invariants.BellSummary.{Summary, summary}
use Rattle.promises.proofs.invariants.BellWaiting.{waiting, waits_for}
use Rattle.promises.proofs.invariants.Touches.{writes_by}
use Rattle.promises.proofs.invariants.TouchBringUp.{touches}
use Rattle.promises.proofs.any_machine.RegisterLaws.{none_rings, ring_once, status_written}
use Rattle.promises.proofs.theorems.BoundaryCore.{bells_reached, named, up_exactly}
use Rattle.promises.proofs.theorems.RangeTheorems.{runs}
use Rattle.ehci.specs.declared.reply.Answered.{Answered}
use Rattle.common.specs.declared.answer.Refusal.{Refusal}

-- ---- what the state has is what the history says

fresh_kept : (s : Settings) (w : World) → Opening s w → Kept [] (moment core w)
unfolding fresh_state pending_in masked_in flag_in read_in
fresh_kept s w o =
    subst (λ (x : World). Kept [] (moment core x)) (sym (opening_is s w o).1) (record { pending = refl; masked = refl; enabled = refl; step = refl })

pub registers_tied : EveryRun RegistersTied core
unfolding world_of history_of pending_in masked_in flag_in read_in
registers_tied s w o [] = fresh_kept s w o
registers_tied s w o (c ∷ cs) =
    let now = world_of core w cs in
    let k = registers_tied s w o cs in
    let a = (core now c).reply.answer in
    let t = touches now (bells_reached s w o cs).0.ranges c in
    record {
      pending = t.pending ∙ ap (λ (p : ℕ). cond (is_done a) (pending_after (access_of c) p) p) k.pending;
      masked = t.masked ∙ ap (λ (q : ℕ). cond (is_done a) (masked_after (access_of c) q) q) k.masked;
      enabled = t.enabled (flag_in (history_of core w cs)) k.enabled;
      step = t.step ∙ ap (λ (n : ℕ). read_after (access_of c) a n) k.step;
    }

-- ---- which turns ring

goes_rings : (b : Bell) (k d : ℕ) (remain : Bool) → d ≡ flag_number (is_up b) → eqb d 0 ≡ ringing (Unlinks k) b remain
goes_rings Quiet k d remain e = rw e
goes_rings Rung k d remain e = rw e
goes_rings AnsweredBell k d remain e = rw e

-- unlinks remain
remain : (c a u : ℕ) → a ≡ c + u → leb 1 (u - 1) ≡ ltb (c + 1) a
remain c a u e = by (leb 1 (u - 1)) refl
  where
    by : (b : Bool) → leb 1 (u - 1) ≡ b → leb 1 (u - 1) ≡ ltb (c + 1) a
    by true q = q ∙ sym (lt-ltb (c + 1) a (omega (arith, leb-true 1 (u - 1) q)))
    by false q = q ∙ sym (le-ltb (c + 1) a (omega (arith, leb-false 1 (u - 1) q)))

module _ (s : Settings) (h : History) (w : World) (c : Call) (g : StateInv s h w.state) where
  abbrev t : Turn
  t = turn_of w.rows c (core w c)

  abbrev Rings : Type 0
  Rings = rings t ≡ rings_by s h t

  calm_rings : Calm s t h → Rings
  calm_rings x = x.no_ring ∙ sym (none_rings (event s t) (bell s h) (is_left s h) x.no_unlink x.no_count)

  -- by the event and the bell
  says : (e : Event) (b : Bell) → event s t ≡ e → bell s h ≡ b → rings_by s h t ≡ ringing e b (is_left s h)
  says e b x y = ap (λ (z : Event). ringing z (bell s h) (is_left s h)) x ∙ ap (λ (z : Bell). ringing e z (is_left s h)) y

  pub rings_now : Summary s w c (core w c) h → Rings
  rings_now (Summary.quiets x) = calm_rings x.stays
  rings_now (Summary.answers x) = x.silent ∙ sym (says Reads (bell s h) x.event_is refl)
  rings_now (Summary.advances x) =
      x.rang ∙ remain (counted s h) (asked s h) w.state.unanswered g.owing ∙ sym (says Drains AnsweredBell x.event_is x.was)
  rings_now (Summary.comes x) = calm_rings x.stays
  rings_now (Summary.goes x) = x.rang ∙ goes_rings (bell s h) x.k w.state.doorbell (is_left s h) g.up ∙ sym (says (Unlinks x.k) (bell s h) x.event_is refl)
  rings_now (Summary.departs x) = calm_rings x.stays
  rings_now (Summary.ends x) = calm_rings x.stays

-- ---- what each call writes

flag_on : (b : Bool) (n : ℕ) → n ≡ flag_number b → not (eqb n 0) ≡ b
flag_on true n e = rw e
flag_on false n e = rw e

module _ (s : Settings) (h : History) (w : World) (c : Call) (sound : Sound s w) (k : Kept h (moment core w)) (r : rings (turn_of w.rows c (core w c)) ≡ rings_by s h (turn_of w.rows c (core w c))) where
  abbrev done : Bool
  done = is_done (core w c).reply.answer

  by_history : (x : Access) → writes_by w (core w c) x ≡ writes_for s h (turn_of w.rows c (core w c)) x
  by_history Access.None = refl
  by_history Access.Starts = refl
  by_history (Access.Steps v) =
      ap (λ (z : Settings). cond done (step_writes z w.state.step v) []) sound.settings_are ∙ ap (λ (n : ℕ). cond done (step_writes s n v) []) k.step
  by_history (Access.Submits v) = refl
  by_history (Access.Leaves v) = ap (λ (b : Bool). cond b (ring v) []) r
  by_history (Access.Acknowledges x) = refl
  by_history (Access.Drains v) = ap (λ (b : Bool). cond b (ring v) []) r
  by_history Access.Rearms =
      ap (λ (q : ℕ). cond (done && not (eqb q 0)) (usbintr (cond (not (eqb w.state.enabled 0)) 0x27 0)) []) k.masked
      ∙ ap (λ (b : Bool). cond (done && not (eqb (masked_in h) 0)) (usbintr (cond b 0x27 0)) []) (flag_on (flag_in h) w.state.enabled k.enabled)
  by_history Access.Enables = refl
  by_history Access.Disables = refl

pub writes_exactly : EveryRun WritesExactly core
writes_exactly s w o cs c =
    let b = bells_reached s w o cs in
    let now = world_of core w cs in
    let h = history_of core w cs in
    (touches now b.0.ranges c).wrote
    ∙ by_history s h now c b.0 (registers_tied s w o cs)
    (rings_now s h now c b.1 (summary s now c (core now c) h b.0 b.1 (effect now c) (named s w o cs c))) (access_of c)

pub status_acknowledged : EveryRun StatusAcknowledged core
status_acknowledged = status_written core writes_exactly

pub rings_in_turn : EveryRun RingsInTurn core
rings_in_turn = ring_once core writes_exactly up_exactly

-- ---- while bring-up is begun no ring is out

idle_waits : (x : Endpoint) (v : ℕ) → (holds_request x ≡ true → ⊥) → waits_for v x ≡ false
idle_waits Closed v n = refl
idle_waits (Idle p) v n = refl
idle_waits (Linked p r) v n = refl
idle_waits (Unlinking p r b) v n = absurd (n refl)

none_waiting : (v : ℕ) (f : ℕ → Endpoint) → ((k : ℕ) → waits_for v (f k) ≡ false) → (n : ℕ) → waiting v f n ≡ 0
none_waiting v f none zero = refl
none_waiting v f none (suc n) = omega (arith, none_waiting v f none n, ap flag_number (none n))

quiet_down : (b : Bell) → is_up b ≡ false → b ≡ Quiet
quiet_down Quiet e = refl
quiet_down Rung e = absurd (true≢false e)
quiet_down AnsweredBell e = absurd (true≢false e)

none_owed : (b : Bool) → 0 ≡ flag_number b → b ≡ false
none_owed true e = absurd (omega arith)
none_owed false e = refl

pub quiet_bring_up : EveryRun QuietBringUp core
quiet_bring_up s w o cs begun =
    let b = (bells_reached s w o cs).1 in
    let now = (world_of core w cs).state in
    let idles = (runs s w o cs).1 in
    let stopped : now.running ≡ 0 = idles.stopped (λ z. begun (sym (registers_tied s w o cs).step ∙ z)) in
    let none : (k : ℕ) → waits_for 1 (endpoint_at now k) ≡ false = λ k. idle_waits (endpoint_at now k) 1 (λ u. omega (arith, stopped, idles.runs k u)) in
    quiet_down (bell s (history_of core w cs)) (b.owed ∙ none_owed (ltb 0 now.unanswered) (sym (none_waiting 1 (endpoint_at now) none 32) ∙ b.each 0))

-- ---- what is answered

module _ (s : Settings) (w : World) (sound : Sound s w) where
  -- no call is refused at the door, nor for the ranges
  inside : (c : Call) (P : Result Answered Refusal → Type 0)
      → P (call_of w.state (length w.rows.pool) w.rows.heads w.rows.frames w.rows.setups (seen w c) c).decided.reply.answer
      → P (core w c).reply.answer
  unfolding apply_of decide_of
  inside c P p = rw (rows_fit _ w sound) p

  good : in_ranges w.state ≡ true
  good = ranges_make w.state sound.ranges

  abbrev Says : List ℕ → Result Answered Refusal → Type 0
  Says vs a = (answered_number a ≡ 0) × (answered_values a ≡ vs)

  acknowledge_says : (x : InterruptReadings) → Says (flag_number (not (eqb (acknowledged x) 0)) ∷ []) (core w (Acknowledge x)).reply.answer
  unfolding acknowledge_decided acknowledge_of replied
  acknowledge_says x = inside (Acknowledge x) (Says _) (rw good (by (eqb (acknowledged x) 0)))
    where
      by : (b : Bool) → Says (flag_number (not b) ∷ []) (acknowledge_reply (heard_if b w.state (acknowledged x) x.interrupts x.flag x.again)).reply.answer
      by true = (refl, refl)
      by false = (refl, refl)

  drain_says : (v : ℕ) → Says (event_in w.state.pending) (core w (Drain v)).reply.answer
  unfolding drain_decided drain_of replied cleared_of
  drain_says v = inside (Drain v) (Says _) (rw good (by (eqb w.state.pending 0) refl (any_of w.state.pending 4) refl (any_of w.state.pending 0x23) refl))
    where
      by : (z : Bool) → eqb w.state.pending 0 ≡ z → (a : Bool) → any_of w.state.pending 4 ≡ a → (b : Bool) → any_of w.state.pending 0x23 ≡ b
          → Says (event_in w.state.pending) (drain_reply (drain_if (eqb w.state.pending 0) w.state (counted_of w.state v) (cleared_of w.state.pending))).reply.answer
      by true e a p b q = rw e (refl, refl)
      by false e true p b q = rw (e, p) (refl, refl)
      by false e false p true q = rw (e, p, q) (refl, refl)
      by false e false p false q = rw (e, p, q) (refl, refl)

  rearm_says : Says [] (core w Rearm).reply.answer
  unfolding settled_reply rearm_of replied
  rearm_says = inside Rearm (Says []) (rw good (by (eqb w.state.masked 0)))
    where
      by : (b : Bool) → Says [] (settled_reply (rearm_if b w.state)).reply.answer
      by true = (refl, refl)
      by false = (refl, refl)

  enable_says : Says [] (core w Enable).reply.answer
  unfolding settled_reply enable_of replied
  enable_says = inside Enable (Says []) (rw good (refl, refl))

  disable_says : Says [] (core w Disable).reply.answer
  unfolding settled_reply disable_of replied
  disable_says = inside Disable (Says []) (rw good (refl, refl))

pub interrupts_answered : EveryRun InterruptsAnswered core
interrupts_answered s w o cs =
    let now = world_of core w cs in
    let sound = (bells_reached s w o cs).0 in
    record {
      acknowledges = acknowledge_says s now sound;
      drains_pending = λ v. subst (λ (p : ℕ). Says s now sound (event_in p) (core now (Drain v)).reply.answer) (registers_tied s w o cs).pending (drain_says s now sound v);
      rearms = rearm_says s now sound;
      enables = enable_says s now sound;
      disables = disable_says s now sound;
    }
