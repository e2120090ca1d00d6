-- The statements of specs/Boundaries.antt, of `core`.
use Prim.Native.Nat.{ℕ, ◌+◌, ◌≤◌}
use mathlib.Core.Bool.{Bool, true, false, true≢false, false≢true}
use mathlib.Core.List.{List, [], ◌∷◌}
use mathlib.Core.Logic.{◌↔◌}
use mathlib.Core.Path.{◌≡◌, refl, sym, ap, subst, ◌∙◌}
use native.Mathlib.Omega.{arith}
use borrow.Author.Tests.{eq-eqb, eqb-true, le-leb, le-ltb, leb-true, lt-ltb, ltb-false, ltb-true}
use lib.Dec.{ltb}
use Rattle.settings.specs.declared.settings.Settings.{Settings}
use Rattle.pipe.specs.Endpoints.{endpoint_at}
use Rattle.common.specs.Kinds.{is_interrupt}
use Rattle.pipe.specs.declared.endpoints.Endpoint.{Endpoint}
use Rattle.pipe.specs.declared.endpoints.Endpoint.TheVariants.{Closed, Idle, Linked, Unlinking}
use Rattle.pipe.specs.declared.endpoints.Pipe.{Pipe}
use Rattle.pipe.specs.declared.endpoints.Request.{Request}
use Rattle.pipe.specs.declared.endpoints.UnlinkBoundary.{UnlinkBoundary}
use Rattle.pipe.specs.declared.endpoints.UnlinkBoundary.TheVariants.{Async, Periodic}
use Rattle.opening.specs.Opening.{fresh_state}
use Rattle.controller.specs.declared.lent.Readings.{Readings}
use Rattle.schedule.specs.Bell.{distance}
use Rattle.collection.specs.Unlinks.{passed_boundary}
use Rattle.ehci.specs.declared.call.Call.{Call}
use Rattle.ehci.specs.declared.call.Call.TheVariants.{Collect}
use Rattle.promises.specs.Runs.{EveryRun, History, Opening, Turn, World, core, history_of, turn_of, world_of}
use Rattle.promises.specs.Events.{event, is_collected}
use Rattle.promises.specs.Bells.{asked, bell, counted, is_parts_of, is_submits_of, is_unlinks_of, is_up, kind_at, linked, newest_id, number, parted, parting, unlinking}
use Rattle.promises.specs.Boundaries.{BoundaryKept, BoundaryNumbered, Exact, FramesKept, NineOn, OneCount, OnePasses, OnlyAnswered, Orderly, PassesExactly, UpExactly, Waits}
use Rattle.promises.proofs.effects.Effects.{Unlinked}
use Rattle.promises.proofs.effects.EffectOf.{effect}
use Rattle.promises.proofs.invariants.Reached.{opening_is, sound_opens}
use Rattle.promises.proofs.invariants.Sound.{Sound}
use Rattle.promises.proofs.invariants.SoundKeeps.{sound_keeps}
use Rattle.promises.proofs.invariants.ChainEvents.{unlink_event}
use Rattle.promises.proofs.theorems.ChainRuns.{chained}
use Rattle.promises.proofs.invariants.BellSlots.{Leaving, Slot}
use Rattle.promises.proofs.invariants.BellInvariant.{opening_inv}
use Rattle.promises.proofs.invariants.BellFacts.{fresh_closed}
use Rattle.promises.proofs.invariants.BellSteps.{StateInv}
use Rattle.promises.proofs.invariants.BellUnlinks.{Named, bells_keep}
use Rattle.promises.proofs.invariants.BellSummary.{Summary, summary}
use Rattle.promises.proofs.theorems.BoundaryCalls.{Found, collect_found, collect_makes}
use Rattle.promises.proofs.any_machine.BoundaryExact.{frames_kept, passes_exactly}
use Rattle.promises.proofs.any_machine.Boundary.{boundary}
use Rattle.promises.proofs.any_machine.Numbers.{by_numbers}
use Rattle.promises.proofs.any_machine.Once.{answered_only, one_count, one_passes}
use Rattle.promises.proofs.any_machine.Waits.{waits}

-- after an opening
pub bells_open : (s : Settings) (w : World) → Opening s w → StateInv s [] w.state
unfolding fresh_state
bells_open s w o = subst (λ (x : World). StateInv s [] x.state) (sym (opening_is s w o).1) (opening_inv s (endpoint_at (fresh_state s)) (fresh_closed s))

-- ---- of a world

module _ (s : Settings) (h : History) (w : World) (sound : Sound s w) (g : StateInv s h w.state) where
  -- unanswered is exactly the number of unlinks not yet answered, and at most 32; the doorbell is up exactly while there is one
  pub up_now : (counted s h ≤ asked s h) × (asked s h ≤ counted s h + 32) × (is_up (bell s h) ≡ ltb (counted s h) (asked s h))
  up_now = (omega (arith, g.owing), omega (arith, g.owing, sound.ranges.unanswered_most), g.owed ∙ go (ltb 0 w.state.unanswered) refl)
    where
      go : (b : Bool) → ltb 0 w.state.unanswered ≡ b → ltb 0 w.state.unanswered ≡ ltb (counted s h) (asked s h)
      go true e = e ∙ sym (lt-ltb (counted s h) (asked s h) (omega (arith, g.owing, ltb-true 0 w.state.unanswered e)))
      go false e = e ∙ sym (le-ltb (counted s h) (asked s h) (omega (arith, g.owing, ltb-false 0 w.state.unanswered e)))

  module _ (k id : ℕ) (rd : Readings) where
    abbrev Collectable : Type 0
    Collectable = is_collected (core w (Collect k id rd)).reply.answer ≡ true

    abbrev ByNumber : Type 0
    ByNumber = (unlinking s k h ≡ true) × (id ≡ newest_id s k h) × (number s k h ≤ counted s h)

    abbrev ByFrames : Type 0
    ByFrames = (parting s k h ≡ true) × (id ≡ newest_id s k h) × NineOn (parted s k h) rd.frame

    slot_of : (x : Endpoint) → endpoint_at w.state k ≡ x → Slot s k h w.state.unanswered x
    slot_of x e = subst (Slot s k h w.state.unanswered) e (g.slot k)

    by_number : is_interrupt (kind_at s k h) ≡ false → Found w k id rd (core w (Collect k id rd)).reply.answer → ByNumber
    by_number kind x = go x.u (slot_of (Unlinking x.p x.r x.u) x.unlinking) x.passed
      where
        go : (b : UnlinkBoundary) → Leaving s k h w.state.unanswered x.p x.r b → passed_boundary b rd.frame ≡ true → ByNumber
        go (Async n) y e = (y.going, sym x.same ∙ sym y.id_is, omega (arith, y.left, eqb-true n 0 e))
        go (Periodic n) y e = absurd (true≢false (sym (ap is_interrupt y.kind_is ∙ y.counts_frames) ∙ kind))

    by_frames : is_interrupt (kind_at s k h) ≡ true → Found w k id rd (core w (Collect k id rd)).reply.answer → ByFrames
    by_frames kind x = go x.u (slot_of (Unlinking x.p x.r x.u) x.unlinking) x.passed
      where
        go : (b : UnlinkBoundary) → Leaving s k h w.state.unanswered x.p x.r b → passed_boundary b rd.frame ≡ true → ByFrames
        go (Async n) y e = absurd (true≢false (sym kind ∙ (ap is_interrupt y.kind_is ∙ y.rings_for)))
        go (Periodic n) y e = (y.apart, sym x.same ∙ sym y.id_is, subst (λ (z : ℕ). 9 ≤ distance z rd.frame) y.from (leb-true 9 (distance n rd.frame) e))

    number_makes : ByNumber → Collectable
    number_makes q = at (endpoint_at w.state k) refl (g.slot k)
      where
        leaves : (p : Pipe) (r : Request) (b : UnlinkBoundary) → endpoint_at w.state k ≡ Unlinking p r b → Leaving s k h w.state.unanswered p r b → Collectable
        leaves p r (Async n) e y = collect_makes w k id rd s sound p r (Async n) e (sym y.id_is ∙ sym q.1) (eq-eqb n 0 (omega (arith, y.left, q.2)))
        leaves p r (Periodic n) e y = absurd (false≢true (sym y.in_ring ∙ q.0))

        at : (x : Endpoint) → endpoint_at w.state k ≡ x → Slot s k h w.state.unanswered x → Collectable
        at Closed e y = absurd (false≢true (sym y.in_ring ∙ q.0))
        at (Idle p) e y = absurd (false≢true (sym y.in_ring ∙ q.0))
        at (Linked p r) e y = absurd (false≢true (sym y.in_ring ∙ q.0))
        at (Unlinking p r b) e y = leaves p r b e y

    frames_make : ByFrames → Collectable
    frames_make q = at (endpoint_at w.state k) refl (g.slot k)
      where
        leaves : (p : Pipe) (r : Request) (b : UnlinkBoundary) → endpoint_at w.state k ≡ Unlinking p r b → Leaving s k h w.state.unanswered p r b → Collectable
        leaves p r (Async n) e y = absurd (false≢true (sym y.in_frames ∙ q.0))
        leaves p r (Periodic n) e y =
            collect_makes w k id rd s sound p r (Periodic n) e (sym y.id_is ∙ sym q.1)
            (le-leb 9 (distance n rd.frame) (subst (λ (z : ℕ). 9 ≤ distance z rd.frame) (sym y.from) q.2))

        at : (x : Endpoint) → endpoint_at w.state k ≡ x → Slot s k h w.state.unanswered x → Collectable
        at Closed e y = absurd (false≢true (sym y.in_frames ∙ q.0))
        at (Idle p) e y = absurd (false≢true (sym y.in_frames ∙ q.0))
        at (Linked p r) e y = absurd (false≢true (sym y.in_frames ∙ q.0))
        at (Unlinking p r b) e y = leaves p r b e y

    pub exact_now : (is_interrupt (kind_at s k h) ≡ false → Collectable ↔ ByNumber) × (is_interrupt (kind_at s k h) ≡ true → Collectable ↔ ByFrames)
    exact_now = (
      λ kind. (λ done. by_number kind (collect_found w k id rd done), number_makes),
      λ kind. (λ done. by_frames kind (collect_found w k id rd done), frames_make),
    )

  -- ---- each event has its place

  module _ (c : Call) where
    abbrev t : Turn
    t = turn_of w.rows c (core w c)

    pub orderly_now : Summary s w c (core w c) h → (k : ℕ)
        → (is_unlinks_of k (event s t) ≡ true → (linked s k h ≡ true) × (is_interrupt (kind_at s k h) ≡ false))
        × (is_parts_of k (event s t) ≡ true → (linked s k h ≡ true) × (is_interrupt (kind_at s k h) ≡ true))
        × (is_submits_of k (event s t) ≡ true → (linked s k h ≡ false) × (unlinking s k h ≡ false) × (parting s k h ≡ false))
    orderly_now (Summary.quiets x) k = (
      λ e. absurd (false≢true (sym (x.aside k).no_unlink ∙ e)),
      λ e. absurd (false≢true (sym (x.aside k).no_part ∙ e)),
      λ e. absurd (false≢true (sym (x.aside k).no_submit ∙ e)),
    )
    orderly_now (Summary.answers x) k = (
      λ e. absurd (false≢true (sym (ap (is_unlinks_of k) x.event_is) ∙ e)),
      λ e. absurd (false≢true (sym (ap (is_parts_of k) x.event_is) ∙ e)),
      λ e. absurd (false≢true (sym (ap (is_submits_of k) x.event_is) ∙ e)),
    )
    orderly_now (Summary.advances x) k = (
      λ e. absurd (false≢true (sym (ap (is_unlinks_of k) x.event_is) ∙ e)),
      λ e. absurd (false≢true (sym (ap (is_parts_of k) x.event_is) ∙ e)),
      λ e. absurd (false≢true (sym (ap (is_submits_of k) x.event_is) ∙ e)),
    )
    orderly_now (Summary.ends x) k = (
      λ e. absurd (false≢true (sym (ap (is_unlinks_of k) x.event_is) ∙ e)),
      λ e. absurd (false≢true (sym (ap (is_parts_of k) x.event_is) ∙ e)),
      λ e. absurd (false≢true (sym (ap (is_submits_of k) x.event_is) ∙ e)),
    )
    orderly_now (Summary.comes x) k = (
      λ e. absurd (false≢true (sym (ap (is_unlinks_of k) x.event_is) ∙ e)),
      λ e. absurd (false≢true (sym (ap (is_parts_of k) x.event_is) ∙ e)),
      λ e.
          let same : x.k ≡ k = eqb-true x.k k (sym (ap (is_submits_of k) x.event_is) ∙ e) in
          let y = subst (Slot s x.k h w.state.unanswered) x.was (g.slot x.k) in
          subst (λ (j : ℕ). (linked s j h ≡ false) × (unlinking s j h ≡ false) × (parting s j h ≡ false)) same (y.off, y.in_ring, y.in_frames),
    )
    orderly_now (Summary.goes x) k = (
      λ e.
          let same : x.k ≡ k = eqb-true x.k k (sym (ap (is_unlinks_of k) x.event_is) ∙ e) in
          let y = subst (Slot s x.k h w.state.unanswered) x.was (g.slot x.k) in
          subst (λ (j : ℕ). (linked s j h ≡ true) × (is_interrupt (kind_at s j h) ≡ false)) same (y.on, ap is_interrupt y.kind_is ∙ x.ring),
      λ e. absurd (false≢true (sym (ap (is_parts_of k) x.event_is) ∙ e)),
      λ e. absurd (false≢true (sym (ap (is_submits_of k) x.event_is) ∙ e)),
    )
    orderly_now (Summary.departs x) k = (
      λ e. absurd (false≢true (sym (ap (is_unlinks_of k) x.event_is) ∙ e)),
      λ e.
          let same : x.k ≡ k = eqb-true x.k k (sym (ap (is_parts_of k) x.event_is) ∙ e) in
          let y = subst (Slot s x.k h w.state.unanswered) x.was (g.slot x.k) in
          subst (λ (j : ℕ). (linked s j h ≡ true) × (is_interrupt (kind_at s j h) ≡ true)) same (y.on, ap is_interrupt y.kind_is ∙ x.frames),
      λ e. absurd (false≢true (sym (ap (is_submits_of k) x.event_is) ∙ e)),
    )

-- ---- of a run

-- which schedule an unlinked head leaves
pub named : (s : Settings) (w : World) → Opening s w → (cs : List Call) (c : Call)
    → (x : Unlinked (world_of core w cs) c (core (world_of core w cs) c)) → Named s (world_of core w cs) c (core (world_of core w cs) c) x
named s w o cs c x =
    let at = chained s w o cs in
    unlink_event s (history_of core w cs) (world_of core w cs) c (core (world_of core w cs) c) at.0 at.1 x

pub bells_reached : (s : Settings) (w : World) → Opening s w → (cs : List Call) → Sound s (world_of core w cs) × StateInv s (history_of core w cs) (world_of core w cs).state
unfolding world_of history_of
bells_reached s w o [] = (sound_opens s w o, bells_open s w o)
bells_reached s w o (c ∷ cs) =
    let before = bells_reached s w o cs in
    let now = world_of core w cs in (
      sound_keeps s now c (core now c) before.0 (effect now c),
      bells_keep s now c (core now c) (history_of core w cs) before.0 before.1 (effect now c) (named s w o cs c),
    )

pub exact : EveryRun Exact core
exact s w o cs k id rd = let b = bells_reached s w o cs in exact_now s (history_of core w cs) (world_of core w cs) b.0 b.1 k id rd

pub up_exactly : EveryRun UpExactly core
up_exactly s w o cs = let b = bells_reached s w o cs in up_now s (history_of core w cs) (world_of core w cs) b.0 b.1

pub orderly : EveryRun Orderly core
orderly s w o cs c k =
    let b = bells_reached s w o cs in
    let now = world_of core w cs in
    orderly_now s (history_of core w cs) now b.0 b.1 c (summary s now c (core now c) (history_of core w cs) b.0 b.1 (effect now c) (named s w o cs c)) k

pub by_number_alone : EveryRun PassesExactly core
by_number_alone s w o = passes_exactly core s w (orderly s w o) (exact s w o)

pub boundary_kept : EveryRun BoundaryKept core
boundary_kept s w o = boundary core s w (exact s w o) (up_exactly s w o)

pub boundary_numbered : EveryRun BoundaryNumbered core
boundary_numbered s w o = by_numbers core s w (boundary_kept s w o)

pub frames_counted : EveryRun FramesKept core
frames_counted s w o = frames_kept core s w (exact s w o)

pub one_at_a_time : EveryRun OnePasses core
one_at_a_time s w o = one_passes core s w (by_number_alone s w o) (up_exactly s w o)

pub only_answered : EveryRun OnlyAnswered core
only_answered s w o = answered_only core s w (by_number_alone s w o) (up_exactly s w o)

pub one_count_a_ring : EveryRun OneCount core
one_count_a_ring s w o = one_count core s w (by_number_alone s w o) (up_exactly s w o)

pub order_13 : EveryRun Waits core
order_13 s w o = waits core s w (by_number_alone s w o) (up_exactly s w o) (orderly s w o)
