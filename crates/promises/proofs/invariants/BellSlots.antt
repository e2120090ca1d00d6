-- What the history says of a slot, tied to its endpoint; and how it stays where a turn is about something else.
use Prim.Native.Nat.{ℕ, ◌+◌, ◌-◌, ◌%◌, ◌≤◌}
use mathlib.Core.Bool.{true, false}
use mathlib.Core.List.{◌∷◌}
use mathlib.Core.Path.{◌≡◌, refl, sym, ap, ◌∙◌}
use native.Mathlib.Omega.{arith}
use borrow.Author.Tests.{ne_eqb}
use lib.Dec.{eqb}
use Rattle.settings.specs.declared.settings.Settings.{Settings}
use Rattle.common.specs.Kinds.{is_interrupt}
use Rattle.pipe.specs.declared.endpoints.Endpoint.{Endpoint}
use Rattle.pipe.specs.declared.endpoints.Endpoint.TheVariants.{Closed, Idle, Linked, Unlinking}
use Rattle.pipe.specs.declared.endpoints.Pipe.{Pipe}
use Rattle.pipe.specs.declared.endpoints.Request.{Request}
use Rattle.pipe.specs.declared.endpoints.UnlinkBoundary.{UnlinkBoundary}
use Rattle.pipe.specs.declared.endpoints.UnlinkBoundary.TheVariants.{Async, Periodic}
use Rattle.promises.specs.Runs.{History, Turn}
use Rattle.promises.specs.Events.{Event, Other, Reads, Drains, Submits, Unlinks, Parts, Collects, event}
use Rattle.promises.specs.Bells.{counted, id_after, is_collects_of, is_parts_of, is_submits_of, is_unlinks_of, kind_after, kind_at, linked, newest_id, number, parted, parted_at, parting, unlinking}
use Rattle.promises.proofs.invariants.BellWaiting.{fallen}
use Rattle.common.specs.declared.kinds.EndpointType.{EndpointType}

-- ---- a slot

-- no request
pub record Free (s : Settings) (k : ℕ) (h : History) : Type 0 where
  pub off : linked s k h ≡ false
  pub in_ring : unlinking s k h ≡ false
  pub in_frames : parting s k h ≡ false

-- a linked request
pub record Joined (s : Settings) (k : ℕ) (h : History) (p : Pipe) (r : Request) : Type 0 where
  pub on : linked s k h ≡ true
  pub in_ring : unlinking s k h ≡ false
  pub in_frames : parting s k h ≡ false
  pub kind_is : kind_at s k h ≡ p.kind
  pub id_is : newest_id s k h ≡ r.id

-- one that left the ring and waits for n more advances, of u that are owed
pub record Going (s : Settings) (k : ℕ) (h : History) (u : ℕ) (p : Pipe) (r : Request) (n : ℕ) : Type 0 where
  pub off : linked s k h ≡ false
  pub going : unlinking s k h ≡ true
  pub in_frames : parting s k h ≡ false
  pub kind_is : kind_at s k h ≡ p.kind
  pub id_is : newest_id s k h ≡ r.id
  pub rings_for : is_interrupt p.kind ≡ false
  pub left : n ≡ number s k h - counted s h
  pub fits : n ≤ u

-- one that left the frame list when FRINDEX was at `start`
pub record Apart (s : Settings) (k : ℕ) (h : History) (p : Pipe) (r : Request) (start : ℕ) : Type 0 where
  pub off : linked s k h ≡ false
  pub in_ring : unlinking s k h ≡ false
  pub apart : parting s k h ≡ true
  pub kind_is : kind_at s k h ≡ p.kind
  pub id_is : newest_id s k h ≡ r.id
  pub counts_frames : is_interrupt p.kind ≡ true
  pub from : start ≡ parted s k h % 16384

abbrev pub Leaving : Settings → ℕ → History → ℕ → Pipe → Request → UnlinkBoundary → Type 0
Leaving s k h u p r (Async n) = Going s k h u p r n
Leaving s k h u p r (Periodic start) = Apart s k h p r start

abbrev pub Slot : Settings → ℕ → History → ℕ → Endpoint → Type 0
Slot s k h u Closed = Free s k h
Slot s k h u (Idle p) = Free s k h
Slot s k h u (Linked p r) = Joined s k h p r
Slot s k h u (Unlinking p r b) = Leaving s k h u p r b

-- ---- a turn that is not about k

pub record Aside (k : ℕ) (x : Event) : Type 0 where
  pub no_submit : is_submits_of k x ≡ false
  pub no_unlink : is_unlinks_of k x ≡ false
  pub no_part : is_parts_of k x ≡ false
  pub no_collect : is_collects_of k x ≡ false

pub aside_other : (k : ℕ) → Aside k Other
aside_other k = record { no_submit = refl; no_unlink = refl; no_part = refl; no_collect = refl }

pub aside_reads : (k : ℕ) → Aside k Reads
aside_reads k = record { no_submit = refl; no_unlink = refl; no_part = refl; no_collect = refl }

pub aside_drains : (k : ℕ) → Aside k Drains
aside_drains k = record { no_submit = refl; no_unlink = refl; no_part = refl; no_collect = refl }

module _ (k j : ℕ) (ne : k ≡ j → ⊥) where
  apart_from : eqb j k ≡ false
  apart_from = ne_eqb j k (λ e. ne (sym e))

  pub aside_submits : (id : ℕ) (r : _) → Aside k (Submits j id r)
  aside_submits id r = record { no_submit = apart_from; no_unlink = refl; no_part = refl; no_collect = refl }

  pub aside_unlinks : Aside k (Unlinks j)
  aside_unlinks = record { no_submit = refl; no_unlink = apart_from; no_part = refl; no_collect = refl }

  pub aside_parts : (frame : ℕ) → Aside k (Parts j frame)
  aside_parts frame = record { no_submit = refl; no_unlink = refl; no_part = apart_from; no_collect = refl }

  pub aside_collects : (id frame : ℕ) → Aside k (Collects j id frame)
  aside_collects id frame = record { no_submit = refl; no_unlink = refl; no_part = refl; no_collect = apart_from }

module _ (s : Settings) (k : ℕ) (t : Turn) (h : History) (a : Aside k (event s t)) where
  pub same_linked : linked s k (t ∷ h) ≡ linked s k h
  unfolding linked
  same_linked = rw (a.no_submit, a.no_unlink, a.no_part)

  pub same_unlinking : unlinking s k (t ∷ h) ≡ unlinking s k h
  unfolding unlinking
  same_unlinking = rw (a.no_unlink, a.no_submit, a.no_collect)

  pub same_parting : parting s k (t ∷ h) ≡ parting s k h
  unfolding parting
  same_parting = rw (a.no_part, a.no_submit, a.no_collect)

  pub same_number : number s k (t ∷ h) ≡ number s k h
  unfolding number
  same_number = rw a.no_unlink

  -- no submission of its slot
  unasked : (x : Event) → is_submits_of k x ≡ false → (kind : EndpointType) (id : ℕ) → (kind_after k x kind ≡ kind) × (id_after k x id ≡ id)
  unasked Other e kind id = (refl, refl)
  unasked Reads e kind id = (refl, refl)
  unasked Drains e kind id = (refl, refl)
  unasked (Submits j n r) e kind id = (rw e, rw e)
  unasked (Unlinks j) e kind id = (refl, refl)
  unasked (Parts j frame) e kind id = (refl, refl)
  unasked (Collects j n frame) e kind id = (refl, refl)

  pub same_kind : kind_at s k (t ∷ h) ≡ kind_at s k h
  unfolding kind_at
  same_kind = (unasked (event s t) a.no_submit (kind_at s k h) 0).0

  pub same_id : newest_id s k (t ∷ h) ≡ newest_id s k h
  unfolding newest_id
  same_id = (unasked (event s t) a.no_submit (kind_at s k h) (newest_id s k h)).1

  pub same_parted : parted s k (t ∷ h) ≡ parted s k h
  unfolding parted
  same_parted = go (event s t) a.no_part
    where
      go : (x : Event) → is_parts_of k x ≡ false → parted_at k x (parted s k h) ≡ parted s k h
      go Other e = refl
      go Reads e = refl
      go Drains e = refl
      go (Submits j id r) e = refl
      go (Unlinks j) e = refl
      go (Parts j frame) e = rw e
      go (Collects j id frame) e = refl

  free_on : Free s k h → Free s k (t ∷ h)
  free_on f = record { off = same_linked ∙ f.off; in_ring = same_unlinking ∙ f.in_ring; in_frames = same_parting ∙ f.in_frames }

  joined_on : (p : Pipe) (r : Request) → Joined s k h p r → Joined s k (t ∷ h) p r
  joined_on p r j = record {
    on = same_linked ∙ j.on;
    in_ring = same_unlinking ∙ j.in_ring;
    in_frames = same_parting ∙ j.in_frames;
    kind_is = same_kind ∙ j.kind_is;
    id_is = same_id ∙ j.id_is;
  }

  going_on : (u u' n n' : ℕ) (p : Pipe) (r : Request) → n' ≡ number s k h - counted s (t ∷ h) → n' ≤ u' → Going s k h u p r n → Going s k (t ∷ h) u' p r n'
  going_on u u' n n' p r e l g = record {
    off = same_linked ∙ g.off;
    going = same_unlinking ∙ g.going;
    in_frames = same_parting ∙ g.in_frames;
    kind_is = same_kind ∙ g.kind_is;
    id_is = same_id ∙ g.id_is;
    rings_for = g.rings_for;
    left = e ∙ ap (λ (x : ℕ). x - counted s (t ∷ h)) (sym same_number);
    fits = l;
  }

  apart_on : (p : Pipe) (r : Request) (start : ℕ) → Apart s k h p r start → Apart s k (t ∷ h) p r start
  apart_on p r start a = record {
    off = same_linked ∙ a.off;
    in_ring = same_unlinking ∙ a.in_ring;
    apart = same_parting ∙ a.apart;
    kind_is = same_kind ∙ a.kind_is;
    id_is = same_id ∙ a.id_is;
    counts_frames = a.counts_frames;
    from = a.from ∙ ap (λ (x : ℕ). x % 16384) (sym same_parted);
  }

  -- where nothing is counted
  leaving_on : counted s (t ∷ h) ≡ counted s h → (u u' : ℕ) → u ≤ u' → (p : Pipe) (r : Request) (b : UnlinkBoundary) → Leaving s k h u p r b → Leaving s k (t ∷ h) u' p r b
  leaving_on c u u' l p r (Async n) g = going_on u u' n n p r (g.left ∙ ap (λ (x : ℕ). number s k h - x) (sym c)) (omega (arith, g.fits)) g
  leaving_on c u u' l p r (Periodic start) g = apart_on p r start g

  pub slot_on : counted s (t ∷ h) ≡ counted s h → (u u' : ℕ) → u ≤ u' → (x : Endpoint) → Slot s k h u x → Slot s k (t ∷ h) u' x
  slot_on c u u' l Closed g = free_on g
  slot_on c u u' l (Idle p) g = free_on g
  slot_on c u u' l (Linked p r) g = joined_on p r g
  slot_on c u u' l (Unlinking p r b) g = leaving_on c u u' l p r b g

  -- where one is counted
  leaving_falls : counted s (t ∷ h) ≡ counted s h + 1 → (u : ℕ) (p : Pipe) (r : Request) (b : UnlinkBoundary) → Leaving s k h u p r b → Slot s k (t ∷ h) (u - 1) (fallen (Unlinking p r b))
  leaving_falls c u p r (Async n) g = going_on u (u - 1) n (n - 1) p r (omega (arith, g.left, c)) (omega (arith, g.fits)) g
  leaving_falls c u p r (Periodic start) g = apart_on p r start g

  pub slot_falls : counted s (t ∷ h) ≡ counted s h + 1 → (u : ℕ) (x : Endpoint) → Slot s k h u x → Slot s k (t ∷ h) (u - 1) (fallen x)
  slot_falls c u Closed g = free_on g
  slot_falls c u (Idle p) g = free_on g
  slot_falls c u (Linked p r) g = joined_on p r g
  slot_falls c u (Unlinking p r b) g = leaving_falls c u p r b g
