-- Cancel and collect leave a state in its ranges in them, and the lengths of the rows as they were.
use Rattle.std.specs.Prelude.{◌≡◌, ℕ, ◌+◌, ◌<◌, ◌≤◌, Bool, true, false, List, get_or}
use mathlib.Core.Path.{refl, ap, subst, ◌∙◌}
use native.Mathlib.Decide.{ℕ_discrete as dec_eq}
use native.Mathlib.Omega.{arith}
use Rattle.register.specs.Writes.{no_writes}
use Rattle.common.specs.declared.kinds.EndpointType.{EndpointType}
use Rattle.common.specs.declared.kinds.EndpointType.TheVariants.{Control, Isochronous, Bulk, Interrupt}
use Rattle.pool.specs.declared.chain.View.{View}
use Rattle.slot.specs.Ranges.{slot_good}
use Rattle.slot.specs.declared.slot.Slot.{Slot}
use Rattle.slot.proofs.SlotLaws.{Phase, slot_makes, slot_tells}
use Rattle.state.specs.Plain.{Ehci}
use Rattle.state.specs.Ranges.{in_ranges}
use Rattle.state.specs.Slots.{slot_at}
use Rattle.state.specs.State.{with_bell, with_owner}
use Rattle.state.proofs.RangesLaws.{Ranges, ranges_make, ranges_tell}
use Rattle.pipe.specs.Endpoints.{endpoint_at}
use Rattle.controller.specs.Readers.{has_endpoint}
use Rattle.pipe.specs.declared.endpoints.Endpoint.{Endpoint}
use Rattle.pipe.specs.declared.endpoints.Endpoint.TheVariants.{Idle, Linked, Unlinking}
use Rattle.pipe.specs.declared.endpoints.Pipe.{Pipe}
use Rattle.pipe.specs.declared.endpoints.Request.{Request}
use Rattle.pipe.specs.declared.endpoints.UnlinkBoundary.{UnlinkBoundary}
use Rattle.controller.specs.declared.lent.Readings.{Readings}
use Rattle.pipe.proofs.EndpointLaws.{EndpointGood, LinkedGood, OpenPipe, UnlinkingGood, Passable, Suits, Wide, bell_wide, endpoint_keeps, owner_keeps, owner_wide, toggled_good}
use Rattle.controller.proofs.ReaderLaws.{open_below, open_within}
use Rattle.schedule.specs.Bell.{bell_of, must_ring, ring_of, rung_if, unlinked_of}
use Rattle.schedule.specs.declared.bell.Bell.{Bell}
use Rattle.collection.specs.Unlinks.{Left, bounded_of, unlink_of, waiting_of}
use Rattle.collection.specs.Calls.{Gathered, cancel_of, collect_of, finish_of, freed, keeping, marked, marked_of}
use Rattle.collection.proofs.FreedLaws.{freed_hit, freed_miss, freed_past}
use Rattle.collection.proofs.SlotFacts.{endpoint_good}
use Rattle.collection.proofs.Splits.{cancel_split, collect_split, unlink_split}

-- ---- more unanswered unlinks leave a good slot good

more_phase : (e : Slot) (u v : ℕ) → u ≤ v → Phase e u → Phase e v
more_phase e u v h (Phase.closed p k i n) = Phase.closed p k i n
more_phase e u v h (Phase.idle p o n) = Phase.idle p o n
more_phase e u v h (Phase.linked p o r d c b) = Phase.linked p o r d c b
more_phase e u v h (Phase.unlinking p o r d c b) =
    Phase.unlinking p o r d c (record { frame = b.frame; advances = λ ne. omega (arith, h, b.advances ne) })

more_good : (E limit k u v : ℕ) (e : Slot) → u ≤ v → slot_good E limit k u e ≡ true → slot_good E limit k v e ≡ true
more_good E limit k u v e h t =
    let g = slot_tells E limit k u e t in
    slot_makes E limit k v e
    (record {
      id_least = g.id_least;
      closed_from_lem = g.closed_from_lem;
      size_none = g.size_none;
      size_open = g.size_open;
      toggle_none = g.toggle_none;
      toggle_flag = g.toggle_flag;
      by_phase = more_phase e u v h g.by_phase;
    })

-- ---- the doorbell after an unlink

pub record BellGood (s : Ehci) (b : Bell) : Type 0 where
  pub flag : b.doorbell ≤ 1
  pub noted : b.noted ≤ b.doorbell
  pub least : b.doorbell ≤ b.unanswered
  pub most : b.unanswered ≤ 32
  pub more : s.unanswered ≤ b.unanswered

module _ (s : Ehci) (r : Ranges s) where
  pub bell_keeps : (b : Bell) → BellGood s b → Ranges (with_bell s b.noted b.doorbell b.unanswered)
  unfolding with_bell slot_at
  bell_keeps b g =
      record {
        good = r.good;
        running_flag = r.running_flag;
        step_most = r.step_most;
        waited_below = r.waited_below;
        address_least = r.address_least;
        address_most = r.address_most;
        enabled_flag = r.enabled_flag;
        pending_only = r.pending_only;
        masked_only = r.masked_only;
        doorbell_flag = g.flag;
        noted_most = g.noted;
        unanswered_least = g.least;
        unanswered_most = g.most;
        owned = r.owned;
        unowned = r.unowned;
        slots = λ k h. more_good s.settings.endpoints s.settings.limit k s.unanswered b.unanswered (slot_at s k) g.more (r.slots k h);
      }

  asked_good : (cmd : ℕ) → s.unanswered < 32 → BellGood s (unlinked_of (bell_of s) no_writes cmd).bell
  unfolding unlinked_of ring_of
  asked_good cmd h = by (must_ring more) refl
    where
      more : Bell
      more = record { noted = s.noted; doorbell = s.doorbell; unanswered = s.unanswered + 1 }

      by : (b : Bool) → must_ring more ≡ b → BellGood s (rung_if (must_ring more) more no_writes cmd).bell
      by true e =
          rw e
          (record {
            flag = omega arith;
            noted = omega (arith, r.noted_most, r.doorbell_flag);
            least = omega arith;
            most = omega (arith, h);
            more = omega arith;
          })
      by false e =
          rw e
          (record {
            flag = r.doorbell_flag;
            noted = r.noted_most;
            least = omega (arith, r.unanswered_least);
            most = omega (arith, h);
            more = omega arith;
          })

  asked_count : (cmd : ℕ) → (unlinked_of (bell_of s) no_writes cmd).bell.unanswered ≡ s.unanswered + 1
  unfolding unlinked_of ring_of
  asked_count cmd = by (must_ring more) refl
    where
      more : Bell
      more = record { noted = s.noted; doorbell = s.doorbell; unanswered = s.unanswered + 1 }

      by : (b : Bool) → must_ring more ≡ b → (rung_if (must_ring more) more no_writes cmd).bell.unanswered ≡ s.unanswered + 1
      by true e = rw e
      by false e = rw e

  still_good : BellGood s (bell_of s)
  still_good =
      record {
        flag = r.doorbell_flag;
        noted = r.noted_most;
        least = r.unanswered_least;
        most = r.unanswered_most;
        more = omega arith;
      }

  -- the boundary is at most the unanswered unlinks, or a FRINDEX
  pub bound_good : (kind : EndpointType) (rd : Readings) → s.unanswered < 32
      → BellGood s (bounded_of (bell_of s) kind rd).rung.bell
      × Suits kind (bounded_of (bell_of s) kind rd).boundary
      × Passable (bounded_of (bell_of s) kind rd).rung.bell.unanswered (bounded_of (bell_of s) kind rd).boundary
  unfolding bounded_of
  bound_good Control rd h = (asked_good rd.command h, tt, omega (arith, asked_count rd.command))
  bound_good Isochronous rd h = (asked_good rd.command h, tt, omega (arith, asked_count rd.command))
  bound_good Bulk rd h = (asked_good rd.command h, tt, omega (arith, asked_count rd.command))
  bound_good Interrupt rd h = (still_good, tt, omega arith)

-- ---- an unlink, a mark, an end

module _ (s : Ehci) (k : ℕ) (g : Ranges s) (w : Wide s) (low : k < 32) (below : k < s.settings.endpoints) where
  pub waiting_keeps : (rd : Readings) (p : Pipe) (r : Request) → OpenPipe s.settings.limit p → 1 ≤ r.id → s.unanswered < 32 → Ranges (waiting_of s rd k p r).state
  unfolding waiting_of with_bell
  waiting_keeps rd p r pipe least h =
      let u = bounded_of (bell_of s) p.kind rd in
      let b = u.rung.bell in
      let good = bound_good s g p.kind rd h in
      endpoint_keeps (with_bell s b.noted b.doorbell b.unanswered) k (bell_keeps s g b good.0)
      (bell_wide s b.noted b.doorbell b.unanswered w) low (Unlinking p r u.boundary)
      (record { pipe = pipe; request_least = least; suits = good.1; passable = good.2 }) (λ q. absurd (omega (arith, below, q)))

  pub mark_keeps : (p : Pipe) (r : Request) (u : UnlinkBoundary) → EndpointGood s.settings.limit s.unanswered (Unlinking p r u) → Ranges (marked_of s k p r u).state
  mark_keeps p r u good =
      endpoint_keeps s k g w low (Unlinking p (marked r) u)
      (record { pipe = good.pipe; request_least = good.request_least; suits = good.suits; passable = good.passable })
      (λ q. absurd (omega (arith, below, q)))

  pub finish_keeps : (v : View) (p : Pipe) (r : Request) → OpenPipe s.settings.limit p → Ranges (finish_of s v k p r).state
  unfolding finish_of with_owner
  finish_keeps v p r pipe =
      endpoint_keeps (with_owner s o) k (owner_keeps s o g below_E none) (owner_wide s o w) low (Idle p) pipe (λ q. absurd (omega (arith, below, q)))
    where
      o : List ℕ
      o = freed s.owner s.settings.descriptors (k + 1)

      below_E : (i : ℕ) → i < s.settings.descriptors → get_or o i 0 ≤ s.settings.endpoints
      below_E i h = by (dec_eq (get_or s.owner i 0) (k + 1))
        where
          by : Dec (get_or s.owner i 0 ≡ k + 1) → get_or o i 0 ≤ s.settings.endpoints
          by (yes e) = omega (arith, freed_hit s.owner s.settings.descriptors (k + 1) i h e)
          by (no n) = omega (arith, freed_miss s.owner s.settings.descriptors (k + 1) i n, g.owned i h)

      none : (i : ℕ) → s.settings.descriptors ≤ i → get_or o i 0 ≡ 0
      none i h = freed_past s.owner s.settings.descriptors (k + 1) i h ∙ g.unowned i h

-- ---- the calls

module _ (s : Ehci) (pool : ℕ) (h f : List ℕ) (setups : ℕ) (rd : Readings) (k id : ℕ) (inside : in_ranges s ≡ true) (w : Wide s) where
  g : Ranges s
  g = ranges_tell s inside

  low_of : (x : Endpoint) → endpoint_at s k ≡ x → has_endpoint x ≡ true → (k < 32) × (k < s.settings.endpoints)
  unfolding g
  low_of x e o = (open_below s k (ap has_endpoint e ∙ o), open_within s k g (ap has_endpoint e ∙ o))

  good_of : (x : Endpoint) → endpoint_at s k ≡ x → has_endpoint x ≡ true → EndpointGood s.settings.limit s.unanswered x
  unfolding g
  good_of x e o = subst (λ (y : Endpoint). EndpointGood s.settings.limit s.unanswered y) e (endpoint_good s k g (low_of x e o).0)

  unlink_keeps : (p : Pipe) (r q : Request) → endpoint_at s k ≡ Linked p r → q.id ≡ r.id → s.unanswered < 32
      → in_ranges (unlink_of s h f rd k p q).came.state ≡ true
  unfolding g
  unlink_keeps p r q e i u =
      let low = low_of (Linked p r) e refl in
      let good : LinkedGood s.settings.limit p r = good_of (Linked p r) e refl in
      unlink_split s h f rd k p q (λ (l : Left). in_ranges l.came.state ≡ true) inside
      (λ found. ranges_make (waiting_of s rd k p q).state
      (waiting_keeps s k g w low.0 low.1 rd p q good.pipe (omega (arith, i, good.request_least)) u))

  pub cancel_keeps : in_ranges (cancel_of s pool h f setups rd k id).came.state ≡ true
  unfolding g
  cancel_keeps =
      cancel_split s pool h f setups rd k id (λ (l : Left). in_ranges l.came.state ≡ true) (λ x. inside)
      (λ p r ok e u i. unlink_keeps p r (marked r) e refl u)
      (λ p r u ok e i. ranges_make (marked_of s k p r u).state
      (mark_keeps s k g w (low_of (Unlinking p r u) e refl).0 (low_of (Unlinking p r u) e refl).1 p r u (good_of (Unlinking p r u) e refl)))

  pub collect_keeps : (v : View) → in_ranges (collect_of s pool h f setups rd v k id).came.state ≡ true
  unfolding g
  collect_keeps v =
      collect_split s pool h f setups rd k id v (λ (l : Gathered). in_ranges l.came.state ≡ true) (λ x. inside) inside
      (λ p r ok e u i n. unlink_keeps p r r e refl u)
      (λ p r u ok e i t. ranges_make (finish_of s v k (keeping rd p) r).state (ends p r u e))
    where
      ends : (p : Pipe) (r : Request) (u : UnlinkBoundary) → endpoint_at s k ≡ Unlinking p r u → Ranges (finish_of s v k (keeping rd p) r).state
      ends p r u e =
          let low = low_of (Unlinking p r u) e refl in
          let good : UnlinkingGood s.settings.limit s.unanswered p r u = good_of (Unlinking p r u) e refl in
          finish_keeps s k g w low.0 low.1 v (keeping rd p) r (toggled_good s.settings.limit p _ good.pipe)
