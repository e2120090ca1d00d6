-- Both schedules, kept by every call.
use Prim.Native.Nat.{ℕ, ◌+◌, ◌*◌, ◌≤◌, ◌<◌}
use mathlib.Core.Path.{◌≡◌, refl, sym, ap, subst, ◌∙◌}
use mathlib.Core.Bool.{Bool, true, false, cond}
use mathlib.Core.List.{List, ◌∷◌}
use native.Mathlib.Decide.{ℕ_discrete as dec_eq}
use native.Mathlib.Omega.{arith}
use lib.ListN.{get_or, length}
use Rattle.settings.specs.declared.settings.Settings.{Settings}
use Rattle.state.specs.Slots.{with_slot}
use Rattle.state.specs.State.{with_bell, with_owner}
use Rattle.state.specs.Plain.{Ehci}
use Rattle.pipe.specs.Endpoints.{endpoint_at, with_endpoint}
use Rattle.common.specs.Kinds.{is_interrupt}
use Rattle.pipe.specs.declared.endpoints.Endpoint.TheVariants.{Linked, Unlinking}
use Rattle.pipe.specs.declared.endpoints.Pipe.{Pipe}
use Rattle.pipe.specs.declared.endpoints.Request.{Request}
use Rattle.pipe.proofs.EndpointLaws.{Wide, bell_wide, owner_wide}
use Rattle.controller.specs.declared.lent.Readings.{Readings}
use Rattle.controller.proofs.ReaderLaws.{open_below, open_within}
use Rattle.schedule.specs.Bell.{bell_of}
use Rattle.schedule.specs.Links.{Links, detach_of, ring_link, same, slot_link}
use Rattle.schedule.specs.Walks.{Chain}
use Rattle.request.specs.Submit.{first_in, id_at, linked_rows, linked_with, state_with, taken_for, toggle_at}
use Rattle.request.proofs.SubmitLaws.{submit_others}
use Rattle.collection.specs.Unlinks.{bounded_of, waiting_of}
use Rattle.ehci.specs.declared.call.Call.{Call}
use Rattle.ehci.specs.Door.{Applied}
use Rattle.promises.specs.Runs.{History, Rows, World, left_by, rows_of, turn_of}
use Rattle.promises.specs.Events.{Parts, Submits, Unlinks, event}
use Rattle.promises.specs.Uses.{frame_slots, frames_after, remove, ring_after, ring_slots}
use Rattle.promises.proofs.effects.Effects.{Accepts, Effect, Unlinked, with_links}
use Rattle.promises.proofs.invariants.Sound.{Sound, slot_low}
use Rattle.promises.proofs.invariants.ChainInv.{Chained, heads_long, Schedule, Schedules, chain_stays, linked_fields, linked_here, linked_there, linked_in, schedule_shrinks}
use Rattle.promises.proofs.invariants.ChainDetach.{Parted, frames_parted, ring_parted}
use Rattle.promises.proofs.invariants.ChainEvents.{unlink_told}
use Rattle.promises.proofs.invariants.ChainSteps as Steps
use Rattle.promises.proofs.invariants.ChainLinks.{bare_unlinked, links_frames, links_ring}
use Rattle.token.specs.Overlay.{overlay_token}

-- rows with the same heads and frames
other_rows : (t : Ehci) (rows new : Rows) (ks js : List ℕ) → new.heads ≡ rows.heads → new.frames ≡ rows.frames
    → Schedules t rows ks js → Schedules t new ks js
other_rows t rows new ks js h f x = record { ring = rw h x.ring; periodic = rw (h, f) x.periodic; even = rw f x.even }

-- ---- an unlink

module _ (s t : Ehci) (rows : Rows) (left : Links) (ks js : List ℕ) (x : Schedules s rows ks js) (k : ℕ) (e : t.settings ≡ s.settings)
    (others : (b : Bool) (i : ℕ) → (i ≡ k → ⊥) → linked_in b (endpoint_at t i) ≡ linked_in b (endpoint_at s i))
    (now : (b : Bool) → linked_in b (endpoint_at t k) ≡ false) where
  abbrev l : List ℕ
  l = left.heads

  -- the schedule in which slot k was not
  beside : (b : Bool) (word old last : ℕ) (ls : List ℕ) → linked_in b (endpoint_at s k) ≡ false → Schedule b s rows.heads old ls last
      → Chain s l word ls last → Schedule b t l word ls last
  beside b word old last ls off y c =
      record {
        chain = chain_stays s t l l word last ls e (λ i m. refl) c;
        apart = y.apart;
        members = λ i. y.members i ∙ by i (dec_eq i k);
      }
    where
      by : (i : ℕ) → Dec (i ≡ k) → linked_in b (endpoint_at s i) ≡ linked_in b (endpoint_at t i)
      by i (yes q) = rw q (off ∙ sym (now b))
      by i (no ne) = sym (others b i ne)

  within : (b : Bool) (word old last : ℕ) (ls : List ℕ) → Schedule b s rows.heads old ls last → Chain s l word (remove k ls) last
      → Schedule b t l word (remove k ls) last
  within b word old last ls y c =
      schedule_shrinks b s t e rows.heads l word last ls k (others b) (now b)
      (chain_stays s t l l word last (remove k ls) e (λ i m. refl) c) old y

  ends : (ls : List ℕ) → Schedule false t l (ring_link l) ls (s.settings.heads + 2) → Schedule false t l (ring_link l) ls (t.settings.heads + 2)
  ends ls y = subst (λ (n : ℕ). Schedule false t l (ring_link l) ls n) (ap (λ (z : Settings). z.heads + 2) (sym e)) y

  ring_unlinked : linked_in true (endpoint_at s k) ≡ false → Parted s left (remove k ks) js
      → Schedules t (with_links rows left.heads left.frames) (remove k ks) js
  ring_unlinked off p =
      record {
        ring = ends (remove k ks) (within false (ring_link l) (ring_link rows.heads) (s.settings.heads + 2) ks x.ring p.ring);
        periodic = beside true (get_or left.frames 0 0) (get_or rows.frames 0 0) 1 js off x.periodic p.frames;
        even = p.even;
      }

  frames_unlinked : linked_in false (endpoint_at s k) ≡ false → Parted s left ks (remove k js)
      → Schedules t (with_links rows left.heads left.frames) ks (remove k js)
  frames_unlinked off p =
      record {
        ring = ends ks (beside false (ring_link l) (ring_link rows.heads) (s.settings.heads + 2) ks off x.ring p.ring);
        periodic = within true (get_or left.frames 0 0) (get_or rows.frames 0 0) 1 js x.periodic p.frames;
        even = p.even;
      }

-- ---- the slot of a request that waits is linked no more, and no other slot is touched

module _ (s : Ehci) (readings : Readings) (k : ℕ) (p : Pipe) (r : Request) where
  waiting_others : (b : Bool) (i : ℕ) → (i ≡ k → ⊥) → linked_in b (endpoint_at (waiting_of s readings k p r).state i) ≡ linked_in b (endpoint_at s i)
  unfolding waiting_of with_bell
  waiting_others b i ne =
      let u = bounded_of (bell_of s) p.kind readings in
      let t = with_bell s u.rung.bell.noted u.rung.bell.doorbell u.rung.bell.unanswered in
      linked_there b t k (Unlinking p r u.boundary) i ne ∙ linked_fields b s t i refl refl

  waiting_now : Wide s → k < 32 → (b : Bool) → linked_in b (endpoint_at (waiting_of s readings k p r).state k) ≡ false
  unfolding waiting_of
  waiting_now w h b =
      let u = bounded_of (bell_of s) p.kind readings in
      linked_here b (with_bell s u.rung.bell.noted u.rung.bell.doorbell u.rung.bell.unanswered) k (Unlinking p r u.boundary)
      (bell_wide s u.rung.bell.noted u.rung.bell.doorbell u.rung.bell.unanswered w) h

  waiting_settings : (waiting_of s readings k p r).state.settings ≡ s.settings
  unfolding waiting_of with_bell with_endpoint with_slot
  waiting_settings = refl

module _ (s : Settings) (h : History) (w : World) (c : Call) (a : Applied) (sound : Sound s w) (x : Chained s h w) where
  module _ (u : Unlinked w c a) where
    abbrev waits : Ehci
    waits = (waiting_of w.state u.readings u.k u.p u.asked).state

    abbrev parted : Links
    parted = (detach_of w.state w.rows.heads w.rows.frames u.k).rows

    kind_says : (b i : Bool) → is_interrupt u.p.kind ≡ i → linked_in b (endpoint_at w.state u.k) ≡ same b i
    kind_says b i e = ap (linked_in b) u.linked ∙ ap (same b) e

    low : u.k < 32
    low = slot_low s w sound u.k (Linked u.p u.r) u.linked refl

    told : event w.state.settings (turn_of w.rows c a) ≡ cond (is_interrupt u.p.kind) (Parts u.k u.readings.frame) (Unlinks u.k)
    told = unlink_told w c a sound.ranges sound.wide (ring_slots s h) (frame_slots s h) x (heads_long s w sound) sound.frames_fit u

    unlinks_by : (b : Bool) → is_interrupt u.p.kind ≡ b → Chained s (turn_of w.rows c a ∷ h) (left_by a)
    unlinks_by false e =
        Steps.chained_after s h w c a sound x (Unlinks u.k) (told ∙ rw e) waits (with_links w.rows parted.heads parted.frames) u.state_is u.rows_are
        (ring_unlinked w.state waits w.rows parted (ring_slots s h) (frame_slots s h) x u.k (waiting_settings w.state u.readings u.k u.p u.asked)
        (waiting_others w.state u.readings u.k u.p u.asked) (waiting_now w.state u.readings u.k u.p u.asked sound.wide low)
        (kind_says true false e)
        (ring_parted w.state sound.ranges sound.wide w.rows (ring_slots s h) (frame_slots s h) x (heads_long s w sound) sound.frames_fit u.k (kind_says false false e)))
    unlinks_by true e =
        Steps.chained_after s h w c a sound x (Parts u.k u.readings.frame) (told ∙ rw e) waits (with_links w.rows parted.heads parted.frames) u.state_is u.rows_are
        (frames_unlinked w.state waits w.rows parted (ring_slots s h) (frame_slots s h) x u.k (waiting_settings w.state u.readings u.k u.p u.asked)
        (waiting_others w.state u.readings u.k u.p u.asked) (waiting_now w.state u.readings u.k u.p u.asked sound.wide low)
        (kind_says false true e)
        (frames_parted w.state sound.ranges sound.wide w.rows (ring_slots s h) (frame_slots s h) x (heads_long s w sound) sound.frames_fit u.k (kind_says true true e)))

    pub unlinks_keeps : Chained s (turn_of w.rows c a ∷ h) (left_by a)
    unlinks_keeps = unlinks_by (is_interrupt u.p.kind) refl

  module _ (y : Accepts w c a) where
    abbrev takes : Ehci
    takes = state_with w.state (taken_for w.state y.k y.t).owner y.k y.t

    abbrev begins : ℕ
    begins = first_in w.state (taken_for w.state y.k y.t)

    abbrev attached : Links
    attached = linked_rows w.rows.heads w.rows.frames y.t.kind y.k (slot_link w.state y.k) begins (overlay_token y.t.kind (toggle_at w.state y.k))

    takes_settings : takes.settings ≡ w.state.settings
    unfolding state_with with_endpoint with_slot with_owner
    takes_settings = refl

    takes_others : (b : Bool) (i : ℕ) → (i ≡ y.k → ⊥) → linked_in b (endpoint_at takes i) ≡ linked_in b (endpoint_at w.state i)
    takes_others b i ne = ap (linked_in b) (submit_others w.state (taken_for w.state y.k y.t).owner y.k i y.t ne)

    takes_now : (b : Bool) → linked_in b (endpoint_at takes y.k) ≡ same b (is_interrupt y.t.kind)
    unfolding state_with
    takes_now b =
        linked_here b (with_owner w.state (taken_for w.state y.k y.t).owner) y.k (linked_with w.state y.k y.t)
        (owner_wide w.state (taken_for w.state y.k y.t).owner sound.wide) (open_below w.state y.k y.judged.opened)

    bare : (b : Bool) → linked_in b (endpoint_at w.state y.k) ≡ false
    bare b = bare_unlinked b (endpoint_at w.state y.k) y.judged.bare

    room : 17 * (y.k + 1) + 17 ≤ length w.rows.heads
    room = omega (arith, heads_long s w sound, open_within w.state y.k sound.ranges y.judged.opened)

    accepts_by : (b : Bool) → is_interrupt y.t.kind ≡ b
        → Schedules takes (with_links w.rows attached.heads attached.frames) (cond b (ring_slots s h) (y.k ∷ ring_slots s h)) (cond b (y.k ∷ frame_slots s h) (frame_slots s h))
    accepts_by false e =
        links_ring w.state takes w.rows (ring_slots s h) (frame_slots s h) x y.k begins _ room sound.frames_fit takes_settings takes_others bare y.t.kind e
        (takes_now false ∙ ap (same false) e) (takes_now true ∙ ap (same true) e)
    accepts_by true e =
        links_frames w.state takes w.rows (ring_slots s h) (frame_slots s h) x y.k begins _ room sound.frames_fit takes_settings takes_others bare y.t.kind e
        (takes_now true ∙ ap (same true) e) (takes_now false ∙ ap (same false) e)

    pub accepts_keeps : Chained s (turn_of w.rows c a ∷ h) (left_by a)
    accepts_keeps =
        Steps.chained_after s h w c a sound x (Submits y.k (id_at w.state y.k) y.t) y.submits takes (rows_of a) y.state_is refl
        (other_rows takes (with_links w.rows attached.heads attached.frames) (rows_of a)
        (ring_after (Submits y.k (id_at w.state y.k) y.t) (ring_slots s h)) (frames_after (Submits y.k (id_at w.state y.k) y.t) (frame_slots s h))
        (ap (λ (z : Rows). z.heads) y.rows_are) (ap (λ (z : Rows). z.frames) y.rows_are)
        (accepts_by (is_interrupt y.t.kind) refl))

  -- every call
  pub chained_keeps : Effect w c a → Chained s (turn_of w.rows c a ∷ h) (left_by a)
  chained_keeps (Effect.still y) = Steps.still_keeps s h w c a sound x y
  chained_keeps (Effect.hears y) = Steps.hears_keeps s h w c a sound x y
  chained_keeps (Effect.joins y) = Steps.joins_keeps s h w c a sound x y
  chained_keeps (Effect.passes y) = Steps.passes_keeps s h w c a sound x y
  chained_keeps (Effect.counts y) = Steps.counts_keeps s h w c a sound x y
  chained_keeps (Effect.opens y) = Steps.opens_keeps s h w c a sound x y
  chained_keeps (Effect.closes y) = Steps.closes_keeps s h w c a sound x y
  chained_keeps (Effect.rewrites y) = Steps.rewrites_keeps s h w c a sound x y
  chained_keeps (Effect.resizes y) = Steps.resizes_keeps s h w c a sound x y
  chained_keeps (Effect.accepts y) = accepts_keeps y
  chained_keeps (Effect.writes_back y) = Steps.writes_back_keeps s h w c a sound x y
  chained_keeps (Effect.clears y) = Steps.clears_keeps s h w c a sound x y
  chained_keeps (Effect.marks y) = Steps.marks_keeps s h w c a sound x y
  chained_keeps (Effect.unlinks y) = unlinks_keeps y
  chained_keeps (Effect.collects y) = Steps.collected_keeps s h w c a sound x y
