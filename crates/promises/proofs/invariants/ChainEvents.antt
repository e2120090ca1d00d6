-- A call that unlinks is seen to: its head was met by its schedule's walk before, and is not after.
use Prim.Native.Nat.{ℕ, ◌+◌, ◌*◌, ◌<◌}
use mathlib.Core.Path.{◌≡◌, refl, sym, ap, subst, ◌∙◌}
use mathlib.Core.Bool.{Bool, true, false, not, cond, ◌&&◌}
use mathlib.Core.List.{List}
use borrow.Author.Tests.{eq-eqb}
use lib.Dec.{eqb}
use lib.ListN.{get_or, length}
use Rattle.settings.specs.declared.settings.Settings.{Settings}
use Rattle.common.proofs.TestLaws.{both_second}
use Rattle.settings.proofs.SettingsLaws.{Good}
use Rattle.state.specs.Plain.{Ehci}
use Rattle.state.proofs.RangesLaws.{Ranges}
use Rattle.pipe.specs.Endpoints.{endpoint_at}
use Rattle.common.specs.Kinds.{is_interrupt}
use Rattle.pipe.proofs.EndpointLaws.{Wide}
use Rattle.schedule.specs.Links.{detach_of, ring_link}
use Rattle.schedule.specs.Walks.{Chain, Distinct}
use Rattle.ehci.specs.declared.call.Call.{Call}
use Rattle.ehci.specs.Door.{Applied}
use Rattle.promises.specs.Runs.{History, Rows, Turn, World, rows_of, turn_of}
use Rattle.promises.specs.Walks.{AtRingHead, Terminated, Walk, frame_end, frame_walk, is_in, link_walk, ring_end, ring_walk}
use Rattle.promises.specs.Events.{Other, Parts, Unlinks, event, leaves_frames, leaves_ring}
use Rattle.promises.specs.Uses.{frame_slots, remove, ring_slots}
use Rattle.promises.specs.Chains.{head_places}
use Rattle.promises.proofs.effects.Effects.{Unlinked, with_links}
use Rattle.promises.proofs.invariants.Sound.{Sound}
use Rattle.promises.proofs.invariants.ChainLists.{distinct_remove, few, in_places, in_remove}
use Rattle.promises.proofs.invariants.WalkChains.{walk_frames, walk_ring}
use Rattle.promises.proofs.invariants.ChainInv.{Chained, heads_long, Schedules, linked_within, linked_in}
use Rattle.promises.proofs.invariants.ChainDetach.{Parted, frames_parted, ring_parted}

-- ---- the walks of a chain

module _ (s : Ehci) (g : Good s.settings) (rows : Rows) (ks : List ℕ) (d : Distinct ks)
    (within : (i : ℕ) → is_in i ks ≡ true → i < s.settings.endpoints) where
  module _ (c : Chain s rows.heads (ring_link rows.heads) ks (s.settings.heads + 2)) where
    ring_all : link_walk s.settings rows.heads (ring_link rows.heads) ≡ record { met = head_places ks; end = AtRingHead }
    ring_all = walk_ring s g rows.heads (ring_link rows.heads) ks within (few s.settings.endpoints ks d within) c

    pub ring_walked : ring_walk s.settings rows ≡ head_places ks
    unfolding ring_walk
    ring_walked = ap (λ (x : Walk). x.met) ring_all

    pub ring_ended : ring_end s.settings rows ≡ AtRingHead
    unfolding ring_end
    ring_ended = ap (λ (x : Walk). x.end) ring_all

  module _ (f : ℕ) (c : Chain s rows.heads (get_or rows.frames f 0) ks 1) where
    frame_all : link_walk s.settings rows.heads (get_or rows.frames f 0) ≡ record { met = head_places ks; end = Terminated }
    frame_all = walk_frames s g rows.heads (get_or rows.frames f 0) ks within (few s.settings.endpoints ks d within) c

    pub frame_walked : frame_walk s.settings rows f ≡ head_places ks
    unfolding frame_walk
    frame_walked = ap (λ (x : Walk). x.met) frame_all

    pub frame_ended : frame_end s.settings rows f ≡ Terminated
    unfolding frame_end
    frame_ended = ap (λ (x : Walk). x.end) frame_all

-- ---- a turn by the slots before and after

module _ (s : Ehci) (g : Good s.settings) (t : Turn) (k : ℕ) where
  ring_left : (ks ls : List ℕ) → ring_walk s.settings t.before ≡ head_places ks → ring_walk s.settings t.after ≡ head_places ls
      → leaves_ring s.settings k t ≡ (is_in k ks && not (is_in k ls))
  ring_left ks ls a b = rw (a, b, in_places k ks, in_places k ls)

  frames_left : (js ms : List ℕ) → frame_walk s.settings t.before 0 ≡ head_places js → frame_walk s.settings t.after 0 ≡ head_places ms
      → leaves_frames s.settings k t ≡ (is_in k js && not (is_in k ms))
  frames_left js ms a b = rw (a, b, in_places k js, in_places k ms)

in_self : (k : ℕ) (ks : List ℕ) → is_in k (remove k ks) ≡ false
in_self k ks = in_remove k k ks ∙ rw (eq-eqb k k refl)

in_rest : (k i : ℕ) (ks : List ℕ) → is_in i (remove k ks) ≡ true → is_in i ks ≡ true
in_rest k i ks e = both_second (not (eqb i k)) (is_in i ks) (sym (in_remove k i ks) ∙ e)

-- ---- an unlink

module _ (w : World) (c : Call) (a : Applied) (r : Ranges w.state) (wide : Wide w.state) (ks js : List ℕ)
    (x : Schedules w.state w.rows ks js) (fit : length w.rows.heads ≡ 17 * (w.state.settings.endpoints + 1))
    (full : length w.rows.frames ≡ 1024) (u : Unlinked w c a) where
  abbrev turn : Turn
  turn = turn_of w.rows c a

  ring_before : ring_walk w.state.settings w.rows ≡ head_places ks
  ring_before =
      ring_walked w.state r.good w.rows ks x.ring.apart
      (λ i m. linked_within false w.state i r (sym (x.ring.members i) ∙ m)) x.ring.chain

  frames_before : frame_walk w.state.settings w.rows 0 ≡ head_places js
  frames_before =
      frame_walked w.state r.good w.rows js x.periodic.apart
      (λ i m. linked_within true w.state i r (sym (x.periodic.members i) ∙ m)) 0 x.periodic.chain

  module _ (ls ms : List ℕ) (dl : Distinct ls) (dm : Distinct ms) (wl : (i : ℕ) → is_in i ls ≡ true → is_in i ks ≡ true)
      (wm : (i : ℕ) → is_in i ms ≡ true → is_in i js ≡ true) (p : Parted w.state (detach_of w.state w.rows.heads w.rows.frames u.k).rows ls ms) where
    left : Rows
    left =
        with_links w.rows (detach_of w.state w.rows.heads w.rows.frames u.k).rows.heads
        (detach_of w.state w.rows.heads w.rows.frames u.k).rows.frames

    ring_after_lem : ring_walk w.state.settings (rows_of a) ≡ head_places ls
    unfolding left
    ring_after_lem =
        ap (ring_walk w.state.settings) u.rows_are
        ∙ ring_walked w.state r.good left ls dl
        (λ i m. linked_within false w.state i r (sym (x.ring.members i) ∙ wl i m)) p.ring

    frames_after_lem : frame_walk w.state.settings (rows_of a) 0 ≡ head_places ms
    unfolding left
    frames_after_lem =
        ap (λ (rows : Rows). frame_walk w.state.settings rows 0) u.rows_are
        ∙ frame_walked w.state r.good left ms dm
        (λ i m. linked_within true w.state i r (sym (x.periodic.members i) ∙ wm i m)) 0 p.frames

    left_by_lem : event w.state.settings turn
        ≡ cond (is_in u.k ks && not (is_in u.k ls)) (Unlinks u.k)
        (cond (is_in u.k js && not (is_in u.k ms)) (Parts u.k u.readings.frame) Other)
    left_by_lem =
        u.leaves
        ∙ rw (ring_left w.state r.good turn u.k ks ls ring_before ring_after_lem, frames_left w.state r.good turn u.k js ms frames_before frames_after_lem)

  by_kind : (b : Bool) → is_interrupt u.p.kind ≡ b
      → event w.state.settings turn ≡ cond b (Parts u.k u.readings.frame) (Unlinks u.k)
  by_kind false e =
      let linked : linked_in false (endpoint_at w.state u.k) ≡ true = ap (linked_in false) u.linked ∙ ap not e in
      left_by_lem (remove u.k ks) js (distinct_remove u.k ks x.ring.apart) x.periodic.apart (λ i m. in_rest u.k i ks m) (λ i m. m)
      (ring_parted w.state r wide w.rows ks js x fit full u.k linked)
      ∙ rw (x.ring.members u.k, linked, in_self u.k ks)
  by_kind true e =
      let linked : linked_in true (endpoint_at w.state u.k) ≡ true = ap (linked_in true) u.linked ∙ e in
      let off : linked_in false (endpoint_at w.state u.k) ≡ false = ap (linked_in false) u.linked ∙ ap not e in
      left_by_lem ks (remove u.k js) x.ring.apart (distinct_remove u.k js x.periodic.apart) (λ i m. m) (λ i m. in_rest u.k i js m)
      (frames_parted w.state r wide w.rows ks js x fit full u.k linked)
      ∙ rw (x.ring.members u.k, off, x.periodic.members u.k, linked, in_self u.k js)

  pub unlink_told : event w.state.settings turn ≡ cond (is_interrupt u.p.kind) (Parts u.k u.readings.frame) (Unlinks u.k)
  unlink_told = by_kind (is_interrupt u.p.kind) refl

-- the event of an unlink, by the kind of its slot
pub unlink_event : (s : Settings) (h : History) (w : World) (c : Call) (a : Applied) → Sound s w → Chained s h w → (u : Unlinked w c a)
    → event s (turn_of w.rows c a) ≡ cond (is_interrupt u.p.kind) (Parts u.k u.readings.frame) (Unlinks u.k)
unlink_event s h w c a sound x u =
    let here = sound.settings_are in
    subst (λ (z : Settings). event z (turn_of w.rows c a) ≡ cond (is_interrupt u.p.kind) (Parts u.k u.readings.frame) (Unlinks u.k)) here
    (unlink_told w c a sound.ranges sound.wide (ring_slots s h) (frame_slots s h) x
    (heads_long s w sound) sound.frames_fit u)
