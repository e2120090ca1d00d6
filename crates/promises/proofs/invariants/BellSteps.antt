-- The doorbell's invariant lasts, effect by effect.
use Prim.Native.Nat.{ℕ, suc, ◌+◌, ◌-◌, ◌<◌}
use mathlib.Core.Bool.{Bool, true, false, true≢false, ◌&&◌}
use mathlib.Core.List.{List, ◌∷◌}
use mathlib.Core.Logic.{◌⊎◌, inl, inr}
use mathlib.Core.Path.{◌≡◌, refl, sym, ap, subst, ◌∙◌}
use native.Mathlib.Omega.{arith}
use borrow.Author.Tests.{eqb-true, ne_eqb}
use lib.Dec.{eqb, leb}
use Rattle.register.specs.Writes.{list_of, no_writes}
use Rattle.register.specs.declared.writes.Writes.{Writes}
use Rattle.settings.specs.declared.settings.Settings.{Settings}
use Rattle.state.specs.Slots.{with_slot}
use Rattle.state.specs.State.{with_bell, with_boundaries, with_owner}
use Rattle.state.specs.Plain.{Ehci}
use Rattle.pipe.specs.Endpoints.{endpoint_at, flag_number, with_endpoint, with_toggle}
use Rattle.pipe.specs.declared.endpoints.Endpoint.{Endpoint}
use Rattle.pipe.specs.declared.endpoints.Endpoint.TheVariants.{Closed, Idle, Unlinking}
use Rattle.pipe.specs.declared.endpoints.Pipe.{Pipe}
use Rattle.pipe.specs.declared.endpoints.Request.{Request}
use Rattle.pipe.specs.declared.endpoints.UnlinkBoundary.{UnlinkBoundary}
use Rattle.pipe.specs.declared.endpoints.UnlinkBoundary.TheVariants.{Async, Periodic}
use Rattle.pipe.proofs.EndpointLaws.{EndpointGood, Proper, endpoint_other, endpoint_same, owner_aside, owner_wide}
use Rattle.controller.specs.Readers.{has_endpoint}
use Rattle.controller.proofs.ReaderLaws.{open_below}
use Rattle.schedule.specs.Bell.{advanced_of, bell_of, some_ring}
use Rattle.request.specs.Submit.{id_at, linked_with, state_with, taken_for}
use Rattle.collection.specs.Calls.{finish_of, freed, marked}
use Rattle.collection.specs.Unlinks.{passed_boundary}
use Rattle.collection.proofs.SlotFacts.{endpoint_good}
use Rattle.interrupt.specs.Interrupts.{note_if, with_rung}
use Rattle.endpoint.specs.Calls.{new_endpoint, with_size}
use Rattle.ehci.specs.declared.call.Call.{Call}
use Rattle.ehci.specs.Door.{Applied}
use Rattle.promises.specs.Runs.{History, Turn, World, turn_of}
use Rattle.promises.specs.Events.{Event, Other, Reads, Drains, Submits, Collects, event, rings}
use Rattle.promises.specs.Bells.{Answered, Bell, Quiet, Rung, bell, is_answered, is_drains, is_reads, is_unlinks, is_up, linked}
use Rattle.promises.proofs.effects.Effects.{Still, Hears, Joins, Passes, Counts, Opens, Closes, Resizes, Rewrites, Accepts, WritesBack, Marks, Collected, besides, Clears}
use Rattle.promises.proofs.effects.EffectEndpoints.{idle_is}
use Rattle.promises.proofs.invariants.Sound.{Sound}
use Rattle.promises.proofs.invariants.BellWaiting.{is_left, waits_for}
use Rattle.promises.proofs.invariants.BellSlots.{Aside, Leaving, Slot, aside_collects, aside_drains, aside_other, aside_reads, aside_submits, slot_on}
use Rattle.promises.proofs.invariants.BellInvariant.{BellInv, Calm, calm_counted, drain_inv, one_inv, read_inv, still_inv}
use Rattle.promises.proofs.invariants.BellTurns.{free_now, joined_now}
use Rattle.promises.proofs.invariants.BellFacts.{advance_doorbell, advance_noted, advance_rings, advance_unanswered, all_fall, bell_aside, besides_aside, silent_none, silent_submit}

abbrev pub StateInv : Settings → History → Ehci → Type 0
StateInv s h e = BellInv s h e.noted e.doorbell e.unanswered e.pending (endpoint_at e)

-- a note only while the doorbell is up
noted_up : (b : Bell) (n d : ℕ) → n ≡ flag_number (is_answered b) → d ≡ flag_number (is_up b) → note_if (eqb d 1) n ≡ d
noted_up Quiet n d en ed = rw ed en
noted_up Rung n d en ed = rw ed
noted_up Answered n d en ed = rw ed

not_noted : (b : Bool) (n : ℕ) → n ≡ flag_number b → n ≡ 0 → b ≡ false
not_noted true n e z = absurd (omega arith)
not_noted false n e z = refl

flag_none : (b : Bool) (n : ℕ) → n ≡ flag_number b → (n ≡ 1 → ⊥) → b ≡ false
flag_none true n e z = absurd (z e)
flag_none false n e z = refl

not_both : (a b : Bool) → b ≡ false → (a && b) ≡ false
not_both true b e = e
not_both false b e = refl

module _ (s : Settings) (w : World) (c : Call) (a : Applied) (h : History) (sound : Sound s w) (g : StateInv s h w.state) where
  abbrev old : Ehci
  old = w.state

  abbrev t : Turn
  t = turn_of w.rows c a

  abbrev Next : Ehci → Type 0
  Next e = StateInv s (t ∷ h) e

  -- the event, by the settings of the run
  pub is : (x : Event) → event old.settings t ≡ x → event s t ≡ x
  is x e = subst (λ (z : Settings). event z t ≡ x) sound.settings_are e

  pub calm : (x : Event) → event s t ≡ x → is_reads x ≡ false → is_unlinks x ≡ false → (is_drains x && is_answered (bell s h)) ≡ false → rings t ≡ false → Calm s t h
  calm x e r u d q = record {
    no_ring = q;
    no_read = ap is_reads e ∙ r;
    no_count = ap (λ (y : Event). (is_drains y && is_answered (bell s h))) e ∙ d;
    no_unlink = ap is_unlinks e ∙ u;
  }

  pub aside_of : (k : ℕ) (x : Event) → event s t ≡ x → Aside k x → Aside k (event s t)
  aside_of k x e y = subst (Aside k) (sym e) y

  pub no_writes_lem : a.reply.writes ≡ no_writes → rings t ≡ false
  no_writes_lem e = ap (λ (y : Writes). some_ring (list_of y)) e ∙ silent_none

  pub still_step : Still w c a → Next a.reply.state
  still_step x =
      let e = is Other x.nothing in
      subst Next (sym x.state_is)
      (still_inv s t h (calm Other e refl refl refl x.silent) old.noted old.doorbell old.unanswered old.pending x.sides.pending (endpoint_at old) (endpoint_at (besides old x.sides)) g
      (λ n z. g.pend n (sym x.pending_stays ∙ z)) (besides_aside old x.sides) (λ k. aside_of k Other e (aside_other k)))

  pub joins_step : Joins w c a → Next a.reply.state
  joins_step x =
      let e = is Other x.nothing in
      subst Next (sym x.state_is)
      (still_inv s t h (calm Other e refl refl refl x.silent) old.noted old.doorbell old.unanswered old.pending x.sides.pending (endpoint_at old) (endpoint_at (besides old x.sides)) g
      (λ n z. g.pend n (x.pends z)) (besides_aside old x.sides) (λ k. aside_of k Other e (aside_other k)))

  pub unnoted : (old.noted ≡ 0) ⊎ (old.pending ≡ 0) → is_answered (bell s h) ≡ false
  unnoted (inl z) = not_noted (is_answered (bell s h)) old.noted g.note z
  unnoted (inr z) = flag_none (is_answered (bell s h)) old.noted g.note (λ n. g.pend n z)

  pub passes_step : Passes w c a → Next a.reply.state
  passes_step x =
      let e = is Drains x.drains in
      let none : is_answered (bell s h) ≡ false = unnoted x.uncounted in
      subst Next (sym x.state_is)
      (still_inv s t h (calm Drains e refl refl none x.silent) old.noted old.doorbell old.unanswered old.pending x.sides.pending (endpoint_at old) (endpoint_at (besides old x.sides)) g
      (λ n z. absurd (true≢false (sym (one (is_answered (bell s h)) n) ∙ none))) (besides_aside old x.sides) (λ k. aside_of k Drains e (aside_drains k)))
    where
      one : (b : Bool) → old.noted ≡ 1 → is_answered (bell s h) ≡ true
      one b n = go (is_answered (bell s h)) (sym g.note ∙ n)
        where
          go : (b : Bool) → flag_number b ≡ 1 → b ≡ true
          go true q = refl
          go false q = absurd (omega arith)

  pub rewrites_step : Rewrites w c a → Next a.reply.state
  rewrites_step x =
      let e = is Other x.nothing in
      subst Next (sym x.state_is)
      (still_inv s t h (calm Other e refl refl refl (no_writes_lem x.silent)) old.noted old.doorbell old.unanswered old.pending old.pending (endpoint_at old) (endpoint_at old) g
      g.pend (λ k. refl) (λ k. aside_of k Other e (aside_other k)))

  pub writes_back_step : WritesBack w c a → Next a.reply.state
  writes_back_step x =
      let e = is Other x.nothing in
      subst Next (sym x.state_is)
      (still_inv s t h (calm Other e refl refl refl (no_writes_lem x.silent)) old.noted old.doorbell old.unanswered old.pending old.pending (endpoint_at old) (endpoint_at old) g
      g.pend (λ k. refl) (λ k. aside_of k Other e (aside_other k)))

  pub hears_step : Hears w c a → Next a.reply.state
  unfolding with_bell
  hears_step x =
      let e = is Reads x.hears in
      let noted = note_if (eqb old.doorbell 1) old.noted in
      let heard = with_bell old noted old.doorbell old.unanswered in
      subst Next (sym x.state_is)
      (read_inv s t h x.silent (ap is_reads e) (ap is_drains e) (ap is_unlinks e) (λ k. aside_of k Reads e (aside_reads k))
      old.noted old.doorbell old.unanswered old.pending x.sides.pending noted (endpoint_at old) (endpoint_at (besides heard x.sides)) g
      (noted_up (bell s h) old.noted old.doorbell g.note g.up) x.pends
      (λ k. besides_aside heard x.sides k ∙ bell_aside old noted old.doorbell old.unanswered k))

  pub counts_step : Counts w c a → Next a.reply.state
  unfolding with_bell with_boundaries
  counts_step x =
      let e = is Drains x.drains in
      let b = bell_of old in
      let rung = advanced_of b no_writes x.command in
      let after = (with_rung old rung).state in
      let got : BellInv s (t ∷ h) 0 (flag_number (leb 1 (old.unanswered - 1))) (old.unanswered - 1) x.sides.pending (endpoint_at (besides after x.sides)) =
      drain_inv s t h old.noted old.doorbell old.unanswered old.pending (endpoint_at old) (endpoint_at (besides after x.sides)) g x.noted
      (ap is_drains e) (ap is_reads e) (ap is_unlinks e) (ap (λ (y : Writes). some_ring (list_of y)) x.writes_are ∙ advance_rings b x.command)
      (λ k. aside_of k Drains e (aside_drains k))
      (λ k. besides_aside after x.sides k ∙ all_fall old rung.bell.noted rung.bell.doorbell rung.bell.unanswered k) x.sides.pending in
      subst Next (sym x.state_is)
      (subst (λ (n : ℕ). BellInv s (t ∷ h) n rung.bell.doorbell rung.bell.unanswered x.sides.pending (endpoint_at (besides after x.sides))) (sym (advance_noted b x.command))
      (subst (λ (d : ℕ). BellInv s (t ∷ h) 0 d rung.bell.unanswered x.sides.pending (endpoint_at (besides after x.sides))) (sym (advance_doorbell b x.command))
      (subst (λ (u : ℕ). BellInv s (t ∷ h) 0 (flag_number (leb 1 (old.unanswered - 1))) u x.sides.pending (endpoint_at (besides after x.sides))) (sym (advance_unanswered b x.command)) got)))

  -- ---- one slot changes

  -- what of a slot stays where a turn neither submits to it, nor unlinks it, nor collects it
  module _ (x : Event) (e : event s t ≡ x) (silent : rings t ≡ false) (r : is_reads x ≡ false) (u : is_unlinks x ≡ false) (d : is_drains x ≡ false)
      (k : ℕ) (known : k < 32) (others : (j : ℕ) → (j ≡ k → ⊥) → Aside j x) where
    one_step : (y : Endpoint) → Proper y → ((v : ℕ) → waits_for (suc v) y ≡ waits_for (suc v) (endpoint_at old k)) → Slot s k (t ∷ h) old.unanswered y → Next (with_endpoint old k y)
    unfolding with_endpoint with_slot
    one_step y proper waits slot =
        one_inv s t h (calm x e r u (ap (λ (b : Bool). (b && is_answered (bell s h))) d) silent) old.noted old.doorbell old.unanswered old.pending old.pending
        (endpoint_at old) (endpoint_at (with_endpoint old k y)) g g.pend k y (endpoint_same old k y sound.wide known proper) (endpoint_other old k y) waits slot
        (λ j ne. aside_of j x e (others j ne))

    -- and the owners of places
    owned_step : (o : List ℕ) (y : Endpoint) → Proper y → ((v : ℕ) → waits_for (suc v) y ≡ waits_for (suc v) (endpoint_at old k)) → Slot s k (t ∷ h) old.unanswered y → Next (with_endpoint (with_owner old o) k y)
    unfolding with_endpoint with_slot with_owner
    owned_step o y proper waits slot =
        one_inv s t h (calm x e r u (ap (λ (b : Bool). (b && is_answered (bell s h))) d) silent) old.noted old.doorbell old.unanswered old.pending old.pending
        (endpoint_at old) (endpoint_at (with_endpoint (with_owner old o) k y)) g g.pend k y (endpoint_same (with_owner old o) k y (owner_wide old o sound.wide) known proper)
        (λ j ne. endpoint_other (with_owner old o) k y j ne ∙ owner_aside old o j) waits slot (λ j ne. aside_of j x e (others j ne))

  -- slot k has an endpoint, so it is one of the 32
  pub within : (k : ℕ) (y : Endpoint) → endpoint_at old k ≡ y → has_endpoint y ≡ true → k < 32
  within k y e q = open_below old k (ap has_endpoint e ∙ q)

  pub slot_is : (k : ℕ) (y : Endpoint) → endpoint_at old k ≡ y → Slot s k h old.unanswered y
  slot_is k y e = subst (Slot s k h old.unanswered) e (g.slot k)

  stays : (k : ℕ) (x : Event) → event s t ≡ x → Aside k x → rings t ≡ false → is_reads x ≡ false → is_unlinks x ≡ false → is_drains x ≡ false → (y : Endpoint) → Slot s k h old.unanswered y → Slot s k (t ∷ h) old.unanswered y
  stays k x e y q r u d z slot =
      slot_on s k t h (aside_of k x e y) (calm_counted s t h (calm x e r u (ap (λ (b : Bool). (b && is_answered (bell s h))) d) q)) old.unanswered old.unanswered (omega arith) z slot

  pub opens_step : Opens w c a → Next a.reply.state
  opens_step x =
      let e = is Other x.nothing in
      let q = no_writes_lem x.silent in
      subst Next (sym x.state_is)
      (one_step Other e q refl refl refl x.k (omega (arith, x.below, sound.ranges.good.endpoints_most, ap (λ (z : Settings). z.endpoints) sound.settings_are)) (λ j ne. aside_other j) (new_endpoint x.kind x.packet) tt
      (λ v. ap (waits_for (suc v)) (sym x.closed))
      (stays x.k Other e (aside_other x.k) q refl refl refl (new_endpoint x.kind x.packet) (slot_is x.k Closed x.closed)))

  pub resizes_step : Resizes w c a → Next a.reply.state
  resizes_step x =
      let e = is Other x.nothing in
      let q = no_writes_lem x.silent in
      subst Next (sym x.state_is)
      (one_step Other e q refl refl refl x.k (within x.k (Idle x.p) x.idle refl) (λ j ne. aside_other j) (Idle (with_size x.p x.size)) tt
      (λ v. ap (waits_for (suc v)) (sym x.idle))
      (stays x.k Other e (aside_other x.k) q refl refl refl (Idle (with_size x.p x.size)) (slot_is x.k (Idle x.p) x.idle)))

  pub clears_step : Clears w c a → Next a.reply.state
  clears_step x =
      let e = is Other x.nothing in
      let q = no_writes_lem x.silent in
      subst Next (sym x.state_is)
      (one_step Other e q refl refl refl x.k (within x.k (Idle x.p) x.idle refl) (λ j ne. aside_other j) (Idle (with_toggle x.p false)) tt
      (λ v. ap (waits_for (suc v)) (sym x.idle))
      (stays x.k Other e (aside_other x.k) q refl refl refl (Idle (with_toggle x.p false)) (slot_is x.k (Idle x.p) x.idle)))

  pub closes_step : Closes w c a → Next a.reply.state
  closes_step x =
      let e = is Other x.nothing in
      let q = no_writes_lem x.silent in
      subst Next (sym x.state_is)
      (one_step Other e q refl refl refl x.k (within x.k (Idle x.p) x.idle refl) (λ j ne. aside_other j) Closed tt
      (λ v. ap (waits_for (suc v)) (sym x.idle))
      (stays x.k Other e (aside_other x.k) q refl refl refl Closed (slot_is x.k (Idle x.p) x.idle)))

  marked_slot : (k : ℕ) (h : History) (u : ℕ) (p : Pipe) (r : Request) (b : UnlinkBoundary) → Leaving s k h u p r b → Leaving s k h u p (marked r) b
  marked_slot k h u p r (Async n) y = record { off = y.off; going = y.going; in_frames = y.in_frames; kind_is = y.kind_is; id_is = y.id_is; rings_for = y.rings_for; left = y.left; fits = y.fits }
  marked_slot k h u p r (Periodic n) y = record { off = y.off; in_ring = y.in_ring; apart = y.apart; kind_is = y.kind_is; id_is = y.id_is; counts_frames = y.counts_frames; from = y.from }

  pub marks_step : Marks w c a → Next a.reply.state
  marks_step x =
      let e = is Other x.nothing in
      let q = no_writes_lem x.silent in
      let known = within x.k (Unlinking x.p x.r x.u) x.unlinking refl in
      let good = subst (EndpointGood old.settings.limit old.unanswered) x.unlinking (endpoint_good old x.k sound.ranges known) in
      subst Next (sym x.state_is)
      (one_step Other e q refl refl refl x.k known (λ j ne. aside_other j) (Unlinking x.p (marked x.r) x.u) good.suits
      (λ v. ap (waits_for (suc v)) (sym x.unlinking))
      (stays x.k Other e (aside_other x.k) q refl refl refl (Unlinking x.p (marked x.r) x.u)
      (marked_slot x.k h old.unanswered x.p x.r x.u (slot_is x.k (Unlinking x.p x.r x.u) x.unlinking))))

  pub accepts_step : Accepts w c a → Next a.reply.state
  unfolding state_with
  accepts_step x =
      let e = is (Submits x.k (id_at old x.k) x.t) x.submits in
      let idle = idle_is (endpoint_at old x.k) x.judged.opened x.judged.bare in
      subst Next (sym x.state_is)
      (owned_step (Submits x.k (id_at old x.k) x.t) e (ap (λ (y : Writes). some_ring (list_of y)) x.writes_are ∙ silent_submit x.readings) refl refl refl x.k (open_below old x.k x.judged.opened)
      (λ j ne. aside_submits j x.k ne (id_at old x.k) x.t) (taken_for old x.k x.t).owner (linked_with old x.k x.t) tt
      (λ v. ap (waits_for (suc v)) (sym idle.1))
      (joined_now s x.k t h (id_at old x.k) x.t e _ _ refl refl))

  passed_none : (v : ℕ) (b : UnlinkBoundary) (frame : ℕ) → passed_boundary b frame ≡ true → is_left (suc v) b ≡ false
  passed_none v (Async n) frame e = ne_eqb n (suc v) (λ q. absurd (omega (arith, eqb-true n 0 e)))
  passed_none v (Periodic n) frame e = refl

  leaving_off : (k : ℕ) (u : ℕ) (p : Pipe) (r : Request) (b : UnlinkBoundary) → Leaving s k h u p r b → linked s k h ≡ false
  leaving_off k u p r (Async n) y = y.off
  leaving_off k u p r (Periodic n) y = y.off

  pub collects_step : Collected w c a → Next a.reply.state
  unfolding finish_of
  collects_step x =
      let e = is (Collects x.k x.r.id x.frame) x.collects in
      let here = slot_is x.k (Unlinking x.p x.r x.u) x.unlinking in
      subst Next (sym x.state_is)
      (owned_step (Collects x.k x.r.id x.frame) e (no_writes_lem x.silent) refl refl refl x.k (within x.k (Unlinking x.p x.r x.u) x.unlinking refl)
      (λ j ne. aside_collects j x.k ne x.r.id x.frame) (freed old.owner old.settings.descriptors (x.k + 1)) (Idle (with_toggle x.p x.toggle)) tt
      (λ v. sym (ap (waits_for (suc v)) x.unlinking ∙ passed_none v x.u x.frame x.passed))
      (free_now s x.k t h x.r.id x.frame e (leaving_off x.k old.unanswered x.p x.r x.u here)))
