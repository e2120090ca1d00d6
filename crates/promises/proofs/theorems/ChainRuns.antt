-- In every world of a run the walks meet exactly the linked heads, newest first, and end as they should.
use Prim.Native.Nat.{ℕ, ◌<◌}
use mathlib.Core.Path.{◌≡◌, refl, sym, ap, subst, ◌∙◌}
use mathlib.Core.Bool.{Bool, true, false, ◌||◌}
use mathlib.Core.List.{List, [], map}
use native.Mathlib.Omega.{arith}
use lib.ListN.{get_or, get_or-replicate, replicate}
use Rattle.settings.specs.Settings.{settings_good}
use Rattle.settings.specs.declared.settings.Settings.{Settings}
use Rattle.common.proofs.TestLaws.{false_true}
use Rattle.settings.proofs.SettingsLaws.{good_tells}
use Rattle.state.proofs.Arrays.{zeros_at}
use Rattle.pipe.specs.Endpoints.{endpoint_at}
use Rattle.pipe.specs.declared.endpoints.Endpoint.{Endpoint}
use Rattle.pipe.specs.declared.endpoints.Endpoint.TheVariants.{Closed, Idle, Linked, Unlinking}
use Rattle.schedule.specs.Walks.{Chain}
use Rattle.opening.specs.Opening.{fresh_state}
use Rattle.opening.proofs.OpenLaws.{heads_words}
use Rattle.ehci.specs.declared.call.Call.{Call}
use Rattle.promises.specs.Runs.{EveryRun, History, Opening, World, core, history_of, world_of}
use Rattle.promises.specs.Walks.{AtRingHead, Terminated, frame_end, frame_walk, is_in, ring_end, ring_walk}
use Rattle.promises.specs.Uses.{frame_slots, ring_slots, uses}
use Rattle.promises.specs.Chains.{ChainsWalked, head_places, is_linked}
use Rattle.promises.proofs.invariants.Sound.{Sound}
use Rattle.promises.proofs.invariants.Reached.{fresh_world, opening_is, reached, sound_opens}
use Rattle.promises.proofs.invariants.UseInv.{Held, Nobody, tenant_of, tenants_apart}
use Rattle.promises.proofs.invariants.OpenedVerdict.{out_of_uses}
use Rattle.promises.proofs.theorems.RoomPromises.{held}
use Rattle.promises.proofs.invariants.ChainInv.{Chained, linked_by, linked_within, linked_in}
use Rattle.promises.proofs.invariants.ChainEvents.{frame_ended, frame_walked, ring_ended, ring_walked}
use Rattle.promises.proofs.invariants.ChainKeeps.{chained_keeps}

-- ---- at opening nothing is linked

fresh_chained : (s : Settings) → settings_good s ≡ true → Sound s (fresh_world s) → Chained s [] (fresh_world s)
unfolding fresh_state ring_slots frame_slots
fresh_chained s e sound =
    record {
      ring = record { chain = ap (λ (l : List ℕ). get_or l 0 0) (heads_words s (good_tells s e)); apart = tt; members = λ k. sym (none false k) };
      periodic = record { chain = entry 0 (omega arith); apart = tt; members = λ k. sym (none true k) };
      even = λ f low. entry f low ∙ sym (entry 0 (omega arith));
    }
  where
    none : (b : Bool) (k : ℕ) → linked_in b (endpoint_at (fresh_state s) k) ≡ false
    none b k = linked_by (fresh_state s) sound.ranges sound.wide b k ∙ rw (zeros_at 32 k)

    entry : (f : ℕ) → f < 1024 → get_or (replicate {A = ℕ} 1024 1) f 0 ≡ 1
    entry f low = get_or-replicate {A = ℕ} 1024 f 1 0 low

pub chained_opens : (s : Settings) (w : World) → Opening s w → Chained s [] w
chained_opens s w o =
    let is = opening_is s w o in
    let sound = subst (λ (x : World). Sound s x) is.1 (sound_opens s w o) in
    subst (λ (x : World). Chained s [] x) (sym is.1) (fresh_chained s is.0 sound)

pub chained : (s : Settings) (w : World) → Opening s w → (cs : List Call)
    → Sound s (world_of core w cs) × Chained s (history_of core w cs) (world_of core w cs)
chained = reached Chained chained_opens (λ s h w c a sound x e. chained_keeps s h w c a sound x e)

-- ---- the walks of a world

module _ (s : Settings) (h : History) (w : World) (sound : Sound s w) (x : Chained s h w) where
  ring_within : (i : ℕ) → is_in i (ring_slots s h) ≡ true → i < w.state.settings.endpoints
  ring_within i m = linked_within false w.state i sound.ranges (sym (x.ring.members i) ∙ m)

  frames_within : (i : ℕ) → is_in i (frame_slots s h) ≡ true → i < w.state.settings.endpoints
  frames_within i m = linked_within true w.state i sound.ranges (sym (x.periodic.members i) ∙ m)

  pub ring_told : (ring_walk s w.rows ≡ head_places (ring_slots s h)) × (ring_end s w.rows ≡ AtRingHead)
  ring_told =
      subst (λ (z : Settings). (ring_walk z w.rows ≡ head_places (ring_slots s h)) × (ring_end z w.rows ≡ AtRingHead)) sound.settings_are (
        ring_walked w.state sound.ranges.good w.rows (ring_slots s h) x.ring.apart ring_within x.ring.chain,
        ring_ended w.state sound.ranges.good w.rows (ring_slots s h) x.ring.apart ring_within x.ring.chain,
      )

  pub frames_told : (f : ℕ) → f < 1024 → (frame_walk s w.rows f ≡ head_places (frame_slots s h)) × (frame_end s w.rows f ≡ Terminated)
  frames_told f low =
      let chain : Chain w.state w.rows.heads (get_or w.rows.frames f 0) (frame_slots s h) 1 = rw (x.even f low) x.periodic.chain in
      subst (λ (z : Settings). (frame_walk z w.rows f ≡ head_places (frame_slots s h)) × (frame_end z w.rows f ≡ Terminated)) sound.settings_are (
        frame_walked w.state sound.ranges.good w.rows (frame_slots s h) x.periodic.apart frames_within f chain,
        frame_ended w.state sound.ranges.good w.rows (frame_slots s h) x.periodic.apart frames_within f chain,
      )

-- ---- each linked head is that of an uncollected request

linked_held : (b : Bool) (x : Endpoint) → linked_in b x ≡ true → tenant_of x ≡ Nobody → ⊥
linked_held b Closed e q = false_true e
linked_held b (Idle p) e q = false_true e
linked_held b (Linked p r) e q = tenants_apart p.kind p.size r.id r.direction r.length (tenant_of (Linked p r)) q refl
linked_held b (Unlinking p r u) e q = false_true e

module _ (s : Settings) (h : History) (w : World) (x : Chained s h w) (held_by : Held s h w) where
  in_uses : (b : Bool) (k : ℕ) → linked_in b (endpoint_at w.state k) ≡ true → is_in k (map (λ u. u.slot) (uses s h)) ≡ true
  in_uses b k e = by (is_in k (map (λ u. u.slot) (uses s h))) refl
    where
      by : (c : Bool) → is_in k (map (λ u. u.slot) (uses s h)) ≡ c → c ≡ true
      by true q = refl
      by false q = absurd (linked_held b (endpoint_at w.state k) e (held_by.rest k (out_of_uses k (uses s h) q)).0)

  linked_used : (k : ℕ) → is_linked s h k ≡ true → is_in k (map (λ u. u.slot) (uses s h)) ≡ true
  linked_used k e = by (is_in k (ring_slots s h)) refl e
    where
      by : (b : Bool) → is_in k (ring_slots s h) ≡ b → (b || is_in k (frame_slots s h)) ≡ true → is_in k (map (λ u. u.slot) (uses s h)) ≡ true
      by true q m = in_uses false k (sym (x.ring.members k) ∙ q)
      by false q m = in_uses true k (sym (x.periodic.members k) ∙ m)

pub chains_walked : EveryRun ChainsWalked core
chains_walked s w o cs =
    let at = chained s w o cs in
    let past = history_of core w cs in
    let now = world_of core w cs in
    record {
      ring = (ring_told s past now at.0 at.1).0;
      ring_ends = (ring_told s past now at.0 at.1).1;
      frames = λ f low. (frames_told s past now at.0 at.1 f low).0;
      frames_end = λ f low. (frames_told s past now at.0 at.1 f low).1;
      uncollected = linked_used s past now at.1 (held s w o cs).1;
    }
