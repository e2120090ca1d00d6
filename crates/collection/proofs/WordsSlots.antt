-- What a slot with a request tells the functions over words that look at it, unlink, mark and finish it.
use Rattle.std.specs.Prelude.{◌≡◌, ℕ, ◌+◌, ◌*◌, ◌^◌, ◌<◌, ◌≤◌, Bool, eqb, List, length}
use mathlib.Core.Path.{refl, sym, ap, subst, ◌∙◌}
use native.Mathlib.Omega.{arith}
use Rattle.common.specs.Kinds.{is_interrupt}
use Rattle.common.specs.declared.kinds.EndpointType.{EndpointType}
use Rattle.common.specs.declared.kinds.EndpointType.TheVariants.{Control, Isochronous, Bulk, Interrupt}
use Rattle.settings.specs.declared.settings.Settings.{Settings}
use Rattle.state.specs.Plain.{Ehci}
use Rattle.slot.specs.Ids.{after_id}
use Rattle.slot.specs.declared.slot.Slot.{Slot}
use Rattle.words.specs.declared.cores.Rest.{Rest}
use Rattle.words.specs.Good.{Good}
use Rattle.words.specs.Record.{SlotFits, put_slot}
use Rattle.words.specs.View.{state_of}
use Rattle.words.proofs.GoodLaws.{good_room, good_settings}
use Rattle.words.proofs.RowLaws.{put_length}
use Rattle.words.proofs.ViewLaws.{view_kind}
use Rattle.pipe.specs.Endpoints.{boundary_number, encoded, endpoint_at, kind_number, with_toggle}
use Rattle.pipe.specs.declared.endpoints.Endpoint.{Endpoint}
use Rattle.pipe.specs.declared.endpoints.Endpoint.TheVariants.{Idle, Linked, Unlinking}
use Rattle.pipe.specs.declared.endpoints.Pipe.{Pipe}
use Rattle.pipe.specs.declared.endpoints.Request.{Request}
use Rattle.pipe.specs.declared.endpoints.UnlinkBoundary.{UnlinkBoundary}
use Rattle.pipe.specs.declared.endpoints.UnlinkBoundary.TheVariants.{Async, Periodic}
use Rattle.pipe.proofs.WordsFits.{idle_fits, unlinking_fits}
use Rattle.pipe.proofs.WordsTells.{RequestAt, linked_at, unlinking_at}
use Rattle.controller.specs.declared.lent.Readings.{Readings}
use Rattle.schedule.specs.Links.{head_address, periodic}
use Rattle.schedule.specs.declared.bell.Bell.{Bell}
use Rattle.collection.specs.declared.unlink.Bounded.{Bounded}
use Rattle.collection.specs.Calls.{marked}
use Rattle.collection.specs.Unlinks.{bounded_of, frame_below}
use Rattle.collection.specs.Words.{OwnRequest}

-- ---- numbers

kind_periodic : (k : EndpointType) → is_interrupt k ≡ eqb (kind_number k) 3
kind_periodic Control = refl
kind_periodic Isochronous = refl
kind_periodic Bulk = refl
kind_periodic Interrupt = refl

bounded_small : (b : Bell) (k : EndpointType) (rd : Readings) → b.unanswered < 32 → boundary_number (bounded_of b k rd).boundary < 0x4000
unfolding bounded_of
bounded_small b Control rd h = omega arith
bounded_small b Isochronous rd h = omega arith
bounded_small b Bulk rd h = omega arith
bounded_small b Interrupt rd h = omega arith

small_frame : (b : UnlinkBoundary) → boundary_number b < 16384 → frame_below b
small_frame (Async n) h = tt
small_frame (Periodic n) h = h

-- ---- what a slot is read as, it is

pub read_is : (s : Ehci) (k : ℕ) (x y : Endpoint) → x ≡ endpoint_at s k → x ≡ y → endpoint_at s k ≡ y
read_is s k x y ex e = sym ex ∙ e

-- ---- the slot's own request, marked or not

pub own_same : (s : Ehci) (k : ℕ) (p : Pipe) (q : Request) → endpoint_at s k ≡ Linked p q → OwnRequest s k p q
own_same s k p q e = record { own = q; linked = e; same_id = refl; same_length = refl }

pub own_marked : (s : Ehci) (k : ℕ) (p : Pipe) (q m : Request) → endpoint_at s k ≡ Linked p q → m ≡ marked q → OwnRequest s k p m
own_marked s k p q m e em = record { own = q; linked = e; same_id = rw em; same_length = rw em }

module _ (s : Settings) (r : Rest) (ws : List ℕ) (good : Good s r ws) (k : ℕ) where
  -- ---- a slot of the row

  pub slot_low : k < s.endpoints → k < 32
  slot_low here = omega (arith, (good_settings s r ws good).endpoints_most)

  pub slot_room : k < s.endpoints → 6 * k + 6 ≤ length ws
  slot_room here = good_room s r ws good k here

  pub slot_address : k < s.endpoints → s.heads + 128 * (k + 1) < 2 ^ 32
  slot_address here = omega (arith, (good_settings s r ws good).heads_end)

  pub slot_head : (a : ℕ) → a ≡ s.heads + 128 * (k + 1) → a ≡ head_address (state_of s r ws) k
  unfolding state_of
  slot_head a ea = ea

  -- ---- a linked one

  module _ (p : Pipe) (q : Request) where
    pub linked_within : endpoint_at (state_of s r ws) k ≡ Linked p q → k < s.endpoints
    linked_within e = (linked_at s r ws good k p q e).request.within

    module _ (o : OwnRequest (state_of s r ws) k p q) where
      own_at : RequestAt s ws k p o.own
      own_at = (linked_at s r ws good k p o.own o.linked).request

      pub own_periodic : (f : Bool) → f ≡ is_interrupt p.kind → f ≡ periodic (state_of s r ws) k
      own_periodic f ef =
          ef ∙ kind_periodic p.kind ∙ ap (λ (n : ℕ). eqb n 3) (own_at.kind ∙ sym (view_kind s r ws k (slot_low own_at.within)))

      pub own_framed : is_interrupt p.kind ≡ periodic (state_of s r ws) k
      own_framed = own_periodic (is_interrupt p.kind) refl

      pub own_fits : p.next < 2 ^ 64 → (u : Bounded) (b : Bell) (rd : Readings) → u ≡ bounded_of b p.kind rd → b.unanswered < 32
          → SlotFits (encoded (Unlinking p q u.boundary))
      own_fits most u b rd eu h =
          unlinking_fits p q (omega (arith, own_at.size)) (own_at.own ∙ ap after_id (sym o.same_id)) most (omega (arith, o.same_length, own_at.length_below)) u.boundary
          (subst (λ (x : Bounded). boundary_number x.boundary < 0x4000) (sym eu) (bounded_small b p.kind rd h))

  -- ---- what is read there tells it

  module _ (x : Endpoint) (ex : x ≡ endpoint_at (state_of s r ws) k) (p : Pipe) (q : Request) where
    pub read_linked_within : x ≡ Linked p q → k < s.endpoints
    read_linked_within e = linked_within p q (read_is (state_of s r ws) k x (Linked p q) ex e)

    pub read_linked_room : x ≡ Linked p q → 6 * k + 6 ≤ length ws
    read_linked_room e = slot_room (read_linked_within e)

    pub read_unlinking_room : (b : UnlinkBoundary) → x ≡ Unlinking p q b → 6 * k + 6 ≤ length ws
    read_unlinking_room b e =
        slot_room (unlinking_at s r ws good k p q b (read_is (state_of s r ws) k x (Unlinking p q b) ex e)).request.within

  -- ---- one that is unlinking

  module _ (p : Pipe) (q : Request) (b : UnlinkBoundary) (e : endpoint_at (state_of s r ws) k ≡ Unlinking p q b) where
    pub unlinking_within : k < s.endpoints
    unlinking_within = (unlinking_at s r ws good k p q b e).request.within

    pub unlinking_room : 6 * k + 6 ≤ length ws
    unlinking_room = slot_room unlinking_within

    pub unlinking_room_after : (mid : List ℕ) (x : Slot) → mid ≡ put_slot ws k x → 6 * k + 6 ≤ length mid
    unlinking_room_after mid x em = rw (em, put_length ws k x) unlinking_room

    pub unlinking_head : (n : ℕ) → n ≡ 17 * (s.endpoints + 1) → 17 * (k + 1) + 17 ≤ n
    unlinking_head n en = omega (arith, unlinking_within)

    pub unlinking_frame : frame_below b
    unlinking_frame = small_frame b (unlinking_at s r ws good k p q b e).boundary_below

    pub mark_fits : p.next < 2 ^ 64 → (m : Request) → m ≡ marked q → SlotFits (encoded (Unlinking p m b))
    mark_fits most m em =
        let at = unlinking_at s r ws good k p q b e in
        rw em (unlinking_fits p (marked q) (omega (arith, at.request.size)) at.request.own most at.request.length_below b (omega (arith, at.boundary_below)))

    pub finish_fits : p.next < 2 ^ 64 → (t : Bool) (n : Pipe) → n ≡ with_toggle p t → SlotFits (encoded (Idle n))
    finish_fits most t n en =
        let at = (unlinking_at s r ws good k p q b e).request in
        subst (λ (m : Pipe). SlotFits (encoded (Idle m))) (sym en) (idle_fits (with_toggle p t) (omega (arith, at.size)) at.next_least most)
