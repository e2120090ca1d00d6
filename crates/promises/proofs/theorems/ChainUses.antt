-- No detach fails: what a cancel and a collect of an uncollected request do, of every use.
use Prim.Native.Nat.{ℕ, ◌<◌, ◌+◌}
use mathlib.Core.Path.{◌≡◌, refl, sym, ap, subst, ◌∙◌}
use mathlib.Core.Bool.{Bool, true, false, cond, ◌||◌}
use mathlib.Core.List.{List}
use lib.ListN.{take}
use Rattle.settings.specs.declared.settings.Settings.{Settings}
use Rattle.common.proofs.TestLaws.{false_true}
use Rattle.pipe.specs.Endpoints.{endpoint_at}
use Rattle.common.specs.Kinds.{is_interrupt}
use Rattle.pipe.specs.declared.endpoints.Endpoint.{Endpoint}
use Rattle.pipe.specs.declared.endpoints.Endpoint.TheVariants.{Closed, Idle, Linked, Unlinking}
use Rattle.pipe.specs.declared.endpoints.Pipe.{Pipe}
use Rattle.pipe.specs.declared.endpoints.Request.{Request}
use Rattle.pipe.specs.declared.endpoints.UnlinkBoundary.{UnlinkBoundary}
use Rattle.controller.specs.declared.lent.Readings.{Readings}
use Rattle.ehci.specs.declared.call.Call.TheVariants.{Collect}
use Rattle.ehci.specs.Replies.{answered_number}
use Rattle.promises.specs.Runs.{EveryRun, History, World, core, history_of, moment, turn_of, world_of}
use Rattle.promises.specs.Walks.{is_in}
use Rattle.promises.specs.Uses.{Use, frame_slots, may_end_short, ring_slots, uses}
use Rattle.promises.specs.Events.{Other, Parts, Unlinks, event}
use Rattle.promises.specs.Chains.{Detaches, NoDetachFails, is_finished}
use Rattle.promises.proofs.invariants.Sound.{Sound}
use Rattle.promises.proofs.invariants.UseInv.{Kept, Nobody, Tenant, Waits, every_map, tenant_at, tenant_of, tenants_apart}
use Rattle.promises.proofs.theorems.RoomPromises.{held}
use Rattle.promises.proofs.invariants.ChainInv.{Chained, linked_in}
use Rattle.promises.proofs.invariants.ChainDetach.{same_is}
use Rattle.promises.proofs.theorems.ChainRuns.{chained}
use Rattle.pool.specs.Places.{places_from}
use Rattle.pool.specs.Transfers.{ends_short}
use Rattle.promises.proofs.any_machine.ShortRule.{by_count}
use Rattle.promises.proofs.theorems.ChainCancels.{RoomAt, Roomy, cancel_unlinks, mark_done}
use Rattle.promises.proofs.theorems.ChainCollects.{collect_event, collect_waits, finished_alike}

abbrev id_of : Tenant → ℕ
id_of Nobody = 0
id_of (Waits kind z id d n) = id

abbrev ends_of : Tenant → Bool
ends_of Nobody = false
ends_of (Waits kind z id d n) = ends_short kind d

module _ (s : Settings) (h : History) (w : World) (sound : Sound s w) (x : Chained s h w) (roomy : RoomAt s h w) (u : Use)
    (holds : tenant_at w.state u.slot ≡ Waits u.request.kind u.size u.id u.request.direction u.request.length)
    (own : u.places ≡ places_from 0 (take s.descriptors w.state.owner) (u.slot + 1) 256) where
  abbrev k : ℕ
  k = u.slot

  mine : u.places ≡ places_from 0 (take w.state.settings.descriptors w.state.owner) (k + 1) 256
  mine = own ∙ ap (λ (z : Settings). places_from 0 (take z.descriptors w.state.owner) (k + 1) 256) (sym sound.settings_are)

  -- by what its slot is
  linked_detaches : (p : Pipe) (r : Request) → endpoint_at w.state k ≡ Linked p r → Detaches s h (moment core w) u
  linked_detaches p r e = subst (λ (id : ℕ). Detaches s h (moment core w) (record { slot = k; id = id; request = u.request; size = u.size; places = u.places })) id made
    where
      id : r.id ≡ u.id
      id = ap (λ (y : Endpoint). id_of (tenant_of y)) (sym e) ∙ ap id_of holds

      room : w.state.unanswered < 32
      room = roomy k p r e

      rule : is_finished (ends_short p.kind r.direction) w.rows.pool u.places ≡ is_finished (may_end_short u) w.rows.pool u.places
      rule =
          ap (λ (b : Bool). is_finished b w.rows.pool u.places) (ap (λ (y : Endpoint). ends_of (tenant_of y)) (sym e) ∙ ap ends_of holds)
          ∙ by_count (λ b. is_finished b w.rows.pool u.places) u (finished_alike w.rows.pool u.places)

      ended : (rd : Readings) → event s (turn_of w.rows (Collect k r.id rd) (core w (Collect k r.id rd)))
          ≡ cond (is_finished (may_end_short u) w.rows.pool u.places) (cond (is_interrupt p.kind) (Parts k rd.frame) (Unlinks k)) Other
      ended rd =
          collect_event s h w sound x k rd p r e room u.places mine
          ∙ ap (λ (b : Bool). cond b (cond (is_interrupt p.kind) (Parts k rd.frame) (Unlinks k)) Other) rule

      kind : (b : Bool) → linked_in b (endpoint_at w.state k) ≡ true → is_interrupt p.kind ≡ b
      kind b q = same_is b (is_interrupt p.kind) (sym (ap (linked_in b) e) ∙ q)

      made : Detaches s h (moment core w) (record { slot = k; id = r.id; request = u.request; size = u.size; places = u.places })
      made =
          record {
            cancels = λ rd. ap answered_number (cancel_unlinks s h w sound x k rd p r e room).0;
            left_the_ring = λ rd m. (cancel_unlinks s h w sound x k rd p r e room).1 ∙ rw (kind false (sym (x.ring.members k) ∙ m));
            left_the_frames = λ rd m. (cancel_unlinks s h w sound x k rd p r e room).1 ∙ rw (kind true (sym (x.periodic.members k) ∙ m));
            waits = λ rd m. ap answered_number (collect_waits s h w sound x k rd p r e room);
            ends_ring = λ rd m. ended rd ∙ rw (kind false (sym (x.ring.members k) ∙ m));
            ends_frames = λ rd m. ended rd ∙ rw (kind true (sym (x.periodic.members k) ∙ m));
          }

  off : (b : Bool) (ks : List ℕ) (y : Endpoint) → endpoint_at w.state k ≡ y → linked_in b y ≡ false
      → is_in k ks ≡ linked_in b (endpoint_at w.state k) → is_in k ks ≡ true → ⊥
  off b ks y e q m t = false_true (sym (m ∙ ap (linked_in b) e ∙ q) ∙ t)

  unlinking_detaches : (p : Pipe) (r : Request) (b : UnlinkBoundary) → endpoint_at w.state k ≡ Unlinking p r b → Detaches s h (moment core w) u
  unlinking_detaches p r b e = subst (λ (id : ℕ). Detaches s h (moment core w) (record { slot = k; id = id; request = u.request; size = u.size; places = u.places })) id made
    where
      id : r.id ≡ u.id
      id = ap (λ (y : Endpoint). id_of (tenant_of y)) (sym e) ∙ ap id_of holds

      not_ring : is_in k (ring_slots s h) ≡ true → ⊥
      not_ring = off false (ring_slots s h) (Unlinking p r b) e refl (x.ring.members k)

      not_frames : is_in k (frame_slots s h) ≡ true → ⊥
      not_frames = off true (frame_slots s h) (Unlinking p r b) e refl (x.periodic.members k)

      neither : (c : Bool) → is_in k (ring_slots s h) ≡ c → (c || is_in k (frame_slots s h)) ≡ true → ⊥
      neither true q m = not_ring q
      neither false q m = not_frames m

      made : Detaches s h (moment core w) (record { slot = k; id = r.id; request = u.request; size = u.size; places = u.places })
      made =
          record {
            cancels = λ rd. ap answered_number (mark_done s h w sound x k rd p r b e);
            left_the_ring = λ rd m. absurd (not_ring m);
            left_the_frames = λ rd m. absurd (not_frames m);
            waits = λ rd m. absurd (neither (is_in k (ring_slots s h)) refl m);
            ends_ring = λ rd m. absurd (not_ring m);
            ends_frames = λ rd m. absurd (not_frames m);
          }

  use_detaches : (y : Endpoint) → endpoint_at w.state k ≡ y → Detaches s h (moment core w) u
  use_detaches Closed e = absurd (tenants_apart u.request.kind u.size u.id u.request.direction u.request.length (tenant_at w.state k) (ap tenant_of e) holds)
  use_detaches (Idle p) e = absurd (tenants_apart u.request.kind u.size u.id u.request.direction u.request.length (tenant_at w.state k) (ap tenant_of e) holds)
  use_detaches (Linked p r) e = linked_detaches p r e
  use_detaches (Unlinking p r b) e = unlinking_detaches p r b e

-- where a linked slot leaves room for one more unlink, in every world of a run
pub detaches : Roomy → EveryRun NoDetachFails core
detaches roomy s w o cs =
    let at = chained s w o cs in
    let past = history_of core w cs in
    let now = world_of core w cs in
    every_map (Kept s now.state.owner (tenant_at now.state) now.rows.pool now.rows.heads) (Detaches s past (moment core now))
    (λ u kept. use_detaches s past now at.0 at.1 (roomy s w o cs) u kept.holds kept.places_are (endpoint_at now.state u.slot) refl)
    (uses s past) (held s w o cs).1.each
