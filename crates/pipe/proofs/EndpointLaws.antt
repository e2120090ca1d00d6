-- Slots and endpoints: what is written is read back, other slots stay, and a good slot and its endpoint say the same.
use Rattle.std.specs.Prelude.{◌≡◌, ℕ, ◌<◌, ◌≤◌, Bool, true, false, eqb, ◌≢◌, List, length, get_or, set}
use mathlib.Core.Path.{refl, sym, ap, ◌∙◌}
use native.Mathlib.Decide.{ℕ_discrete as dec_eq}
use native.Mathlib.Omega.{arith}
use borrow.Author.Tests.{eq-eqb, ne_eqb, lt-ltb}
use lib.ListN.{length-set}
use lib.Seq.{get_or-set_other, get_or-set_same}
use Rattle.common.specs.declared.kinds.Direction.{Direction}
use Rattle.common.specs.declared.kinds.Direction.TheVariants.{Out, In}
use Rattle.common.specs.declared.kinds.EndpointType.{EndpointType}
use Rattle.common.specs.declared.kinds.EndpointType.TheVariants.{Control, Isochronous, Bulk, Interrupt}
use Rattle.pipe.specs.declared.endpoints.Endpoint.{Endpoint}
use Rattle.pipe.specs.declared.endpoints.Endpoint.TheVariants.{Closed, Idle, Linked, Unlinking}
use Rattle.pipe.specs.declared.endpoints.Pipe.{Pipe}
use Rattle.pipe.specs.declared.endpoints.Request.{Request}
use Rattle.pipe.specs.declared.endpoints.UnlinkBoundary.{UnlinkBoundary}
use Rattle.pipe.specs.declared.endpoints.UnlinkBoundary.TheVariants.{Async, Periodic}
use Rattle.slot.specs.declared.slot.Slot.{Slot}
use Rattle.state.specs.Plain.{Ehci}
use Rattle.pipe.specs.Endpoints.{boundary_number, boundary_of, decoded, direction_number, direction_of, encoded, endpoint_at, flag_number, flag_of, kind_number, kind_of, pick_boundary, pipe_of, request_of, with_endpoint, with_toggle}
use Rattle.slot.specs.Ranges.{slot_good}
use Rattle.state.specs.Slots.{slot_at, with_slot}
use Rattle.state.specs.State.{with_bell, with_owner}
use Rattle.pipe.proofs.EndpointCases.{decode_closed, decode_idle, decode_linked, decode_unlinking}
use Rattle.state.proofs.RangesLaws.{Ranges}
use Rattle.slot.proofs.SlotLaws.{Bounded, OpenKind, Phase, SizeGood, slot_makes, slot_tells}

-- ---- numbers and what they stand for

pub kind_back : (n : ℕ) → n ≤ 3 → kind_number (kind_of n) ≡ n
kind_back n h = by (dec_eq n 0) (dec_eq n 1) (dec_eq n 2)
  where
    by : Dec (n ≡ 0) → Dec (n ≡ 1) → Dec (n ≡ 2) → kind_number (kind_of n) ≡ n
    by (yes e) one two = rw e
    by (no a) (yes e) two = rw e
    by (no a) (no b) (yes e) = rw e
    by (no a) (no b) (no c) = rw (ne_eqb n 0 a, ne_eqb n 1 b, ne_eqb n 2 c) (omega arith)

pub kind_there : (k : EndpointType) → kind_of (kind_number k) ≡ k
kind_there Control = refl
kind_there Isochronous = refl
kind_there Bulk = refl
kind_there Interrupt = refl

pub direction_back : (n : ℕ) → n ≤ 1 → direction_number (direction_of n) ≡ n
direction_back n h = by (dec_eq n 0)
  where
    by : Dec (n ≡ 0) → direction_number (direction_of n) ≡ n
    by (yes e) = rw e
    by (no a) = rw (ne_eqb n 0 a) (omega arith)

pub direction_there : (d : Direction) → direction_of (direction_number d) ≡ d
direction_there Out = refl
direction_there In = refl

pub flag_back : (n : ℕ) → n ≤ 1 → flag_number (flag_of n) ≡ n
flag_back n h = by (dec_eq n 0)
  where
    by : Dec (n ≡ 0) → flag_number (flag_of n) ≡ n
    by (yes e) = rw e
    by (no a) = rw (ne_eqb n 0 a) (omega arith)

pub flag_there : (b : Bool) → flag_of (flag_number b) ≡ b
flag_there true = refl
flag_there false = refl

pub boundary_back : (e : Slot) → boundary_number (boundary_of e) ≡ e.boundary
boundary_back e = by (dec_eq e.kind 3)
  where
    by : Dec (e.kind ≡ 3) → boundary_number (boundary_of e) ≡ e.boundary
    by (yes q) = rw (eq-eqb e.kind 3 q)
    by (no ne) = rw (ne_eqb e.kind 3 ne)

-- ---- a slot's endpoint, encoded again

module _ (e : Slot) (u : ℕ) where
  again : Phase e u → (e.phase ≡ 0 → e.size ≡ 0) → (e.phase ≡ 0 → e.toggle ≡ 0) → e.toggle ≤ 1 → encoded (decoded e) ≡ e
  again (Phase.closed p k i n) z g f =
      ap encoded (sym (decode_closed e (λ q. omega arith) (λ q. omega arith) (λ q. omega arith)))
      ∙ λ j.
      record {
        phase = sym p j;
        kind = sym k j;
        size = sym (z p) j;
        toggle = sym (g p) j;
        id = sym i j;
        request = sym n.request_none j;
        direction = sym n.direction_none j;
        length = sym n.length_none j;
        cancel = sym n.cancel_none j;
        boundary = sym n.boundary_none j;
      }
  again (Phase.idle p o n) z g f =
      ap encoded (sym (decode_idle e (pipe_of e) p refl))
      ∙ λ j.
      record {
        phase = sym p j;
        kind = kind_back e.kind o.most j;
        size = e.size;
        toggle = flag_back e.toggle f j;
        id = e.id;
        request = sym n.request_none j;
        direction = sym n.direction_none j;
        length = sym n.length_none j;
        cancel = sym n.cancel_none j;
        boundary = sym n.boundary_none j;
      }
  again (Phase.linked p o r d c b) z g f =
      ap encoded (sym (decode_linked e (pipe_of e) (request_of e) p refl refl))
      ∙ λ j.
      record {
        phase = sym p j;
        kind = kind_back e.kind o.most j;
        size = e.size;
        toggle = flag_back e.toggle f j;
        id = e.id;
        request = e.request;
        direction = direction_back e.direction d j;
        length = e.length;
        cancel = flag_back e.cancel (omega arith) j;
        boundary = sym b j;
      }
  again (Phase.unlinking p o r d c b) z g f =
      ap encoded (sym (decode_unlinking e (pipe_of e) (request_of e) (boundary_of e) p refl refl refl))
      ∙ λ j.
      record {
        phase = sym p j;
        kind = kind_back e.kind o.most j;
        size = e.size;
        toggle = flag_back e.toggle f j;
        id = e.id;
        request = e.request;
        direction = direction_back e.direction d j;
        length = e.length;
        cancel = flag_back e.cancel c j;
        boundary = boundary_back e j;
      }

  pub encode_decode : (E limit k : ℕ) → slot_good E limit k u e ≡ true → encoded (decoded e) ≡ e
  encode_decode E limit k g = let t = slot_tells E limit k u e g in again t.by_phase t.size_none t.toggle_none t.toggle_flag

-- ---- an endpoint's slot, decoded again

-- a boundary is a FRINDEX for interrupt, and a count of advances for every other kind
abbrev pub Suits : EndpointType → UnlinkBoundary → Type 0
Suits Control (Async n) = Unit {0}
Suits Control (Periodic n) = ⊥
Suits Isochronous (Async n) = Unit {0}
Suits Isochronous (Periodic n) = ⊥
Suits Bulk (Async n) = Unit {0}
Suits Bulk (Periodic n) = ⊥
Suits Interrupt (Async n) = ⊥
Suits Interrupt (Periodic n) = Unit {0}

-- all that reading back asks of an endpoint
abbrev pub Proper : Endpoint → Type 0
Proper Closed = Unit {0}
Proper (Idle p) = Unit {0}
Proper (Linked p r) = Unit {0}
Proper (Unlinking p r b) = Suits p.kind b

boundary_there : (k : EndpointType) (b : UnlinkBoundary) → Suits k b → pick_boundary (eqb (kind_number k) 3) (boundary_number b) ≡ b
boundary_there Control (Async n) h = refl
boundary_there Control (Periodic n) h = absurd h
boundary_there Isochronous (Async n) h = refl
boundary_there Isochronous (Periodic n) h = absurd h
boundary_there Bulk (Async n) h = refl
boundary_there Bulk (Periodic n) h = absurd h
boundary_there Interrupt (Async n) h = absurd h
boundary_there Interrupt (Periodic n) h = refl

pub decode_encode : (x : Endpoint) → Proper x → decoded (encoded x) ≡ x
unfolding decoded
decode_encode Closed h = refl
decode_encode (Idle p) h = rw (kind_there p.kind, flag_there p.toggle)
decode_encode (Linked p r) h = rw (kind_there p.kind, flag_there p.toggle, direction_there r.direction, flag_there r.cancelled)
decode_encode (Unlinking p r b) h =
    rw (boundary_there p.kind b h, kind_there p.kind, flag_there p.toggle, direction_there r.direction, flag_there r.cancelled)

-- ---- slots of a state

-- the arrays have a place for each of the 32 slots
pub record Wide (s : Ehci) : Type 0 where
  pub phases_wide : length s.phases ≡ 32
  pub kinds_wide : length s.kinds ≡ 32
  pub sizes_wide : length s.sizes ≡ 32
  pub toggles_wide : length s.toggles ≡ 32
  pub ids_wide : length s.ids ≡ 32
  pub requests_wide : length s.requests ≡ 32
  pub directions_wide : length s.directions ≡ 32
  pub lengths_wide : length s.lengths ≡ 32
  pub cancels_wide : length s.cancels ≡ 32
  pub boundaries_wide : length s.boundaries ≡ 32

set_here : (l : List ℕ) (k v : ℕ) → length l ≡ 32 → k < 32 → get_or (set l k v) k 0 ≡ v
set_here l k v e h = get_or-set_same l k v 0 (omega arith)

module _ (s : Ehci) (k : ℕ) where
  pub slot_same : (e : Slot) → Wide s → k < 32 → slot_at (with_slot s k e) k ≡ e
  unfolding slot_at with_slot
  slot_same e w h = λ j.
      record {
        phase = set_here s.phases k e.phase w.phases_wide h j;
        kind = set_here s.kinds k e.kind w.kinds_wide h j;
        size = set_here s.sizes k e.size w.sizes_wide h j;
        toggle = set_here s.toggles k e.toggle w.toggles_wide h j;
        id = set_here s.ids k e.id w.ids_wide h j;
        request = set_here s.requests k e.request w.requests_wide h j;
        direction = set_here s.directions k e.direction w.directions_wide h j;
        length = set_here s.lengths k e.length w.lengths_wide h j;
        cancel = set_here s.cancels k e.cancel w.cancels_wide h j;
        boundary = set_here s.boundaries k e.boundary w.boundaries_wide h j;
      }

  pub slot_other : (e : Slot) (j : ℕ) → j ≢ k → slot_at (with_slot s k e) j ≡ slot_at s j
  unfolding slot_at with_slot
  slot_other e j ne = λ i.
      record {
        phase = get_or-set_other s.phases k j e.phase 0 ne i;
        kind = get_or-set_other s.kinds k j e.kind 0 ne i;
        size = get_or-set_other s.sizes k j e.size 0 ne i;
        toggle = get_or-set_other s.toggles k j e.toggle 0 ne i;
        id = get_or-set_other s.ids k j e.id 0 ne i;
        request = get_or-set_other s.requests k j e.request 0 ne i;
        direction = get_or-set_other s.directions k j e.direction 0 ne i;
        length = get_or-set_other s.lengths k j e.length 0 ne i;
        cancel = get_or-set_other s.cancels k j e.cancel 0 ne i;
        boundary = get_or-set_other s.boundaries k j e.boundary 0 ne i;
      }

  pub slot_wide : (e : Slot) → Wide s → Wide (with_slot s k e)
  unfolding with_slot
  slot_wide e w =
      record {
        phases_wide = length-set s.phases k e.phase ∙ w.phases_wide;
        kinds_wide = length-set s.kinds k e.kind ∙ w.kinds_wide;
        sizes_wide = length-set s.sizes k e.size ∙ w.sizes_wide;
        toggles_wide = length-set s.toggles k e.toggle ∙ w.toggles_wide;
        ids_wide = length-set s.ids k e.id ∙ w.ids_wide;
        requests_wide = length-set s.requests k e.request ∙ w.requests_wide;
        directions_wide = length-set s.directions k e.direction ∙ w.directions_wide;
        lengths_wide = length-set s.lengths k e.length ∙ w.lengths_wide;
        cancels_wide = length-set s.cancels k e.cancel ∙ w.cancels_wide;
        boundaries_wide = length-set s.boundaries k e.boundary ∙ w.boundaries_wide;
      }

  pub endpoint_same : (x : Endpoint) → Wide s → k < 32 → Proper x → endpoint_at (with_endpoint s k x) k ≡ x
  unfolding endpoint_at with_endpoint
  endpoint_same x w h proper = rw (lt-ltb k 32 h, slot_same (encoded x) w h) (decode_encode x proper)

  pub endpoint_other : (x : Endpoint) (j : ℕ) → j ≢ k → endpoint_at (with_endpoint s k x) j ≡ endpoint_at s j
  unfolding endpoint_at with_endpoint
  endpoint_other x j ne = rw (slot_other (encoded x) j ne)

-- ---- an endpoint of a state in its ranges

-- an open slot is never isochronous, its packet size is in its range, and its next id is at least 1
pub record OpenPipe (limit : ℕ) (p : Pipe) : Type 0 where
  pub next_least : 1 ≤ p.next
  pub never : p.kind ≢ Isochronous
  pub size : SizeGood limit (kind_number p.kind) p.size

-- whatever its toggle
pub toggled_good : (limit : ℕ) (p : Pipe) (toggle : Bool) → OpenPipe limit p → OpenPipe limit (with_toggle p toggle)
toggled_good limit p toggle g = record { next_least = g.next_least; never = g.never; size = g.size }

-- a linked request has an id and is not cancelled
pub record LinkedGood (limit : ℕ) (p : Pipe) (r : Request) : Type 0 where
  pub pipe : OpenPipe limit p
  pub request_least : 1 ≤ r.id
  pub uncancelled : r.cancelled ≡ false

-- advances still to come are at most those unanswered; a FRINDEX is below 16384
abbrev pub Passable : ℕ → UnlinkBoundary → Type 0
Passable u (Async n) = n ≤ u
Passable u (Periodic n) = n < 16384

pub record UnlinkingGood (limit u : ℕ) (p : Pipe) (r : Request) (b : UnlinkBoundary) : Type 0 where
  pub pipe : OpenPipe limit p
  pub request_least : 1 ≤ r.id
  pub suits : Suits p.kind b
  pub passable : Passable u b

abbrev pub EndpointGood : ℕ → ℕ → Endpoint → Type 0
EndpointGood limit u Closed = Unit {0}
EndpointGood limit u (Idle p) = OpenPipe limit p
EndpointGood limit u (Linked p r) = LinkedGood limit p r
EndpointGood limit u (Unlinking p r b) = UnlinkingGood limit u p r b

-- what encodes to a good slot
open_number : (k : EndpointType) → k ≢ Isochronous → OpenKind (kind_number k)
open_number Control ne = record { most = omega arith; never = λ q. omega arith }
open_number Isochronous ne = absurd (ne refl)
open_number Bulk ne = record { most = omega arith; never = λ q. omega arith }
open_number Interrupt ne = record { most = omega arith; never = λ q. omega arith }

direction_most : (d : Direction) → direction_number d ≤ 1
direction_most Out = omega arith
direction_most In = omega arith

flag_most : (b : Bool) → flag_number b ≤ 1
flag_most true = omega arith
flag_most false = omega arith

bounded_by : (u : ℕ) (k : EndpointType) (b : UnlinkBoundary) → Suits k b → Passable u b → Bounded (kind_number k) (boundary_number b) u
bounded_by u Control (Async n) s h = record { frame = λ q. absurd (omega arith); advances = λ q. h }
bounded_by u Control (Periodic n) s h = absurd s
bounded_by u Isochronous (Async n) s h = record { frame = λ q. absurd (omega arith); advances = λ q. h }
bounded_by u Isochronous (Periodic n) s h = absurd s
bounded_by u Bulk (Async n) s h = record { frame = λ q. absurd (omega arith); advances = λ q. h }
bounded_by u Bulk (Periodic n) s h = absurd s
bounded_by u Interrupt (Async n) s h = absurd s
bounded_by u Interrupt (Periodic n) s h = record { frame = λ q. h; advances = λ q. absurd (q refl) }

module _ (limit u : ℕ) where
  phase_of : (x : Endpoint) → EndpointGood limit u x → Phase (encoded x) u
  phase_of Closed g =
      Phase.closed refl refl refl
      (record { request_none = refl; direction_none = refl; length_none = refl; cancel_none = refl; boundary_none = refl })
  phase_of (Idle p) g =
      Phase.idle refl (open_number p.kind g.never)
      (record { request_none = refl; direction_none = refl; length_none = refl; cancel_none = refl; boundary_none = refl })
  phase_of (Linked p r) g =
      Phase.linked refl (open_number p.kind g.pipe.never) g.request_least (direction_most r.direction)
      (ap flag_number g.uncancelled) refl
  phase_of (Unlinking p r b) g =
      Phase.unlinking refl (open_number p.kind g.pipe.never) g.request_least (direction_most r.direction)
      (flag_most r.cancelled) (bounded_by u p.kind b g.suits g.passable)

  id_of_lem : (x : Endpoint) → EndpointGood limit u x → 1 ≤ (encoded x).id
  id_of_lem Closed g = omega arith
  id_of_lem (Idle p) g = g.next_least
  id_of_lem (Linked p r) g = g.pipe.next_least
  id_of_lem (Unlinking p r b) g = g.pipe.next_least

  none_of : (x : Endpoint) → (encoded x).phase ≡ 0 → (encoded x).size ≡ 0
  none_of Closed z = refl
  none_of (Idle p) z = absurd (omega (arith, z))
  none_of (Linked p r) z = absurd (omega (arith, z))
  none_of (Unlinking p r b) z = absurd (omega (arith, z))

  untoggled : (x : Endpoint) → (encoded x).phase ≡ 0 → (encoded x).toggle ≡ 0
  untoggled Closed z = refl
  untoggled (Idle p) z = absurd (omega (arith, z))
  untoggled (Linked p r) z = absurd (omega (arith, z))
  untoggled (Unlinking p r b) z = absurd (omega (arith, z))

  toggle_of_lem : (x : Endpoint) → (encoded x).toggle ≤ 1
  toggle_of_lem Closed = omega arith
  toggle_of_lem (Idle p) = flag_most p.toggle
  toggle_of_lem (Linked p r) = flag_most p.toggle
  toggle_of_lem (Unlinking p r b) = flag_most p.toggle

  size_of : (x : Endpoint) → EndpointGood limit u x → (encoded x).phase ≢ 0 → SizeGood limit (encoded x).kind (encoded x).size
  size_of Closed g n = absurd (n refl)
  size_of (Idle p) g n = g.size
  size_of (Linked p r) g n = g.pipe.size
  size_of (Unlinking p r b) g n = g.pipe.size

  pub endpoint_makes : (E k : ℕ) (x : Endpoint) → EndpointGood limit u x → (E ≤ k → x ≡ Closed) → slot_good E limit k u (encoded x) ≡ true
  endpoint_makes E k x g c =
      slot_makes E limit k u (encoded x)
      (record {
        id_least = id_of_lem x g;
        closed_from_lem = λ h. ap (λ (y : Endpoint). (encoded y).phase) (c h);
        size_none = none_of x;
        size_open = size_of x g;
        toggle_none = untoggled x;
        toggle_flag = toggle_of_lem x;
        by_phase = phase_of x g;
      })

-- what a good slot decodes to
module _ (e : Slot) (o : OpenKind e.kind) where
  kind_never : kind_of e.kind ≢ Isochronous
  kind_never q = o.never (sym (kind_back e.kind o.most) ∙ ap kind_number q)

  slot_suits : Suits (kind_of e.kind) (boundary_of e)
  slot_suits = by (dec_eq e.kind 0) (dec_eq e.kind 3)
    where
      by : Dec (e.kind ≡ 0) → Dec (e.kind ≡ 3) → Suits (kind_of e.kind) (boundary_of e)
      by (yes q) three = rw q tt
      by (no a) (yes q) = rw q tt
      by (no a) (no b) = let two : e.kind ≡ 2 = omega (arith, o.most, o.never) in rw two tt

  slot_passable : (u : ℕ) → Bounded e.kind e.boundary u → Passable u (boundary_of e)
  slot_passable u b = by (dec_eq e.kind 3)
    where
      by : Dec (e.kind ≡ 3) → Passable u (boundary_of e)
      by (yes q) = rw (eq-eqb e.kind 3 q) (b.frame q)
      by (no ne) = rw (ne_eqb e.kind 3 ne) (b.advances ne)

module _ (E limit k u : ℕ) (e : Slot) (sized : e.phase ≢ 0 → SizeGood limit e.kind e.size) where
  open_pipe : 1 ≤ e.id → e.phase ≢ 0 → OpenKind e.kind → OpenPipe limit (pipe_of e)
  open_pipe i n o =
      record { next_least = i; never = kind_never e o; size = rw (kind_back e.kind o.most) (sized n) }

  endpoint_by : 1 ≤ e.id → Phase e u → EndpointGood limit u (decoded e)
  endpoint_by i (Phase.closed p _ _ _) = rw (sym (decode_closed e (λ q. omega arith) (λ q. omega arith) (λ q. omega arith))) tt
  endpoint_by i (Phase.idle p o _) =
      rw (sym (decode_idle e (pipe_of e) p refl)) (open_pipe i (λ q. omega (arith, q, p)) o)
  endpoint_by i (Phase.linked p o r _ c _) =
      rw (sym (decode_linked e (pipe_of e) (request_of e) p refl refl))
      (record { pipe = open_pipe i (λ q. omega (arith, q, p)) o; request_least = r; uncancelled = rw c })
  endpoint_by i (Phase.unlinking p o r _ _ b) =
      rw (sym (decode_unlinking e (pipe_of e) (request_of e) (boundary_of e) p refl refl refl))
      (record {
        pipe = open_pipe i (λ q. omega (arith, q, p)) o;
        request_least = r;
        suits = slot_suits e o;
        passable = slot_passable e o u b;
      })

pub endpoint_tells : (E limit k u : ℕ) (e : Slot) → slot_good E limit k u e ≡ true → EndpointGood limit u (decoded e)
endpoint_tells E limit k u e t =
    let g = slot_tells E limit k u e t in endpoint_by E limit k u e g.size_open g.id_least g.by_phase

-- ---- a slot or an endpoint put into a state in its ranges

module _ (s : Ehci) (k : ℕ) (r : Ranges s) (w : Wide s) (h : k < 32) where
  pub slot_keeps : (e : Slot) → slot_good s.settings.endpoints s.settings.limit k s.unanswered e ≡ true → Ranges (with_slot s k e)
  unfolding with_slot
  slot_keeps e t =
      record {
        good = r.good;
        running_flag = r.running_flag;
        step_most = r.step_most;
        waited_below = r.waited_below;
        address_least = r.address_least;
        address_most = r.address_most;
        enabled_flag = r.enabled_flag;
        pending_only = r.pending_only;
        masked_only = r.masked_only;
        doorbell_flag = r.doorbell_flag;
        noted_most = r.noted_most;
        unanswered_least = r.unanswered_least;
        unanswered_most = r.unanswered_most;
        owned = r.owned;
        unowned = r.unowned;
        slots = λ j hj. at j hj (dec_eq j k);
      }
    where
      at : (j : ℕ) → j < 32 → Dec (j ≡ k)
          → slot_good s.settings.endpoints s.settings.limit j s.unanswered (slot_at (with_slot s k e) j) ≡ true
      at j hj (yes q) = rw (q, slot_same s k e w h) t
      at j hj (no ne) = rw (slot_other s k e j ne) (r.slots j hj)

  pub endpoint_keeps : (x : Endpoint) → EndpointGood s.settings.limit s.unanswered x → (s.settings.endpoints ≤ k → x ≡ Closed)
      → Ranges (with_endpoint s k x)
  unfolding with_endpoint
  endpoint_keeps x g c = slot_keeps (encoded x) (endpoint_makes s.settings.limit s.unanswered s.settings.endpoints k x g c)

-- ---- a state with another bell, or another row of owners

pub bell_wide : (s : Ehci) (n d u : ℕ) → Wide s → Wide (with_bell s n d u)
unfolding with_bell
bell_wide s n d u w =
    record {
      phases_wide = w.phases_wide;
      kinds_wide = w.kinds_wide;
      sizes_wide = w.sizes_wide;
      toggles_wide = w.toggles_wide;
      ids_wide = w.ids_wide;
      requests_wide = w.requests_wide;
      directions_wide = w.directions_wide;
      lengths_wide = w.lengths_wide;
      cancels_wide = w.cancels_wide;
      boundaries_wide = w.boundaries_wide;
    }

module _ (s : Ehci) (o : List ℕ) where
  pub owner_wide : Wide s → Wide (with_owner s o)
  unfolding with_owner
  owner_wide w =
      record {
        phases_wide = w.phases_wide;
        kinds_wide = w.kinds_wide;
        sizes_wide = w.sizes_wide;
        toggles_wide = w.toggles_wide;
        ids_wide = w.ids_wide;
        requests_wide = w.requests_wide;
        directions_wide = w.directions_wide;
        lengths_wide = w.lengths_wide;
        cancels_wide = w.cancels_wide;
        boundaries_wide = w.boundaries_wide;
      }

  pub owner_keeps : Ranges s → ((i : ℕ) → i < s.settings.descriptors → get_or o i 0 ≤ s.settings.endpoints)
      → ((i : ℕ) → s.settings.descriptors ≤ i → get_or o i 0 ≡ 0) → Ranges (with_owner s o)
  unfolding with_owner slot_at
  owner_keeps r below none =
      record {
        good = r.good;
        running_flag = r.running_flag;
        step_most = r.step_most;
        waited_below = r.waited_below;
        address_least = r.address_least;
        address_most = r.address_most;
        enabled_flag = r.enabled_flag;
        pending_only = r.pending_only;
        masked_only = r.masked_only;
        doorbell_flag = r.doorbell_flag;
        noted_most = r.noted_most;
        unanswered_least = r.unanswered_least;
        unanswered_most = r.unanswered_most;
        owned = below;
        unowned = none;
        slots = r.slots;
      }

  pub owner_aside : (i : ℕ) → endpoint_at (with_owner s o) i ≡ endpoint_at s i
  unfolding endpoint_at with_owner slot_at
  owner_aside i = refl
