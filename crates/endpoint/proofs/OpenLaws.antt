-- Open endpoint: what an answer tells of the state before and of what is left.
use Rattle.std.specs.Prelude.{◌≡◌, ℕ, ◌+◌, ◌*◌, ◌<◌, ◌≤◌, Bool, true, false, ltb, leb, ◌≢◌, List, length, get_or, Err, Ok, Result}
use mathlib.Core.Path.{refl, sym, ap, subst, ◌∙◌}
use native.Mathlib.Omega.{arith}
use borrow.Author.Tests.{le-leb, leb-false, leb-true, lt-leb, ltb-false, ltb-true}
use Rattle.common.specs.declared.kinds.EndpointType.{EndpointType}
use Rattle.common.specs.declared.kinds.EndpointType.TheVariants.{Isochronous}
use Rattle.descriptor.specs.Descriptors.{terminated}
use Rattle.descriptor.specs.Heads.{endpoint_head, words_of}
use Rattle.slot.proofs.SlotLaws.{SizeGood}
use Rattle.state.specs.Plain.{Ehci}
use Rattle.state.specs.Ranges.{in_ranges}
use Rattle.state.proofs.RangesLaws.{ranges_make, ranges_tell}
use Rattle.common.specs.declared.answer.Refusal.{Refusal}
use Rattle.common.specs.declared.answer.Refusal.TheVariants.{SlotLimitReached}
use Rattle.pipe.specs.declared.endpoints.Endpoint.TheVariants.{Closed}
use Rattle.pipe.specs.Endpoints.{encoded, endpoint_at, flag_number, kind_number, with_endpoint}
use Rattle.common.specs.Kinds.{is_isochronous}
use Rattle.controller.specs.Lent.{accepts_of, lengths}
use Rattle.controller.specs.Readers.{has_endpoint, is_opened}
use Rattle.opening.specs.Heads.{head_word}
use Rattle.pipe.proofs.EndpointLaws.{endpoint_keeps, endpoint_other, endpoint_same, slot_wide, Wide}
use Rattle.common.proofs.KindLaws.{not_isochronous}
use Rattle.common.proofs.CheckLaws.{verdicts_apart}
use Rattle.controller.proofs.LentLaws.{accepts_tells}
use Rattle.endpoint.specs.Calls.{chosen_of, fields_good, lowest_slot, new_endpoint, open_checks, open_endpoint_of, open_left, OpenLeft, with_head}
use Rattle.endpoint.proofs.Cases.{fields_tell, open_done, open_passed, open_refused, open_verdict, slot_is, slot_of}
use Rattle.endpoint.proofs.LowestLaws.{lower_open, lowest_closed_lem}
use Rattle.common.proofs.RowLaws.{Only, put_inside, put_only}
use Rattle.endpoint.proofs.SlotLaws.{below_room}

-- 01's ranges of what is asked
pub record FieldsGood (limit : ℕ) (kind : EndpointType) (a n p : ℕ) : Type 0 where
  pub address_most : a ≤ 127
  pub number_most : n ≤ 15
  pub packet : SizeGood limit (kind_number kind) p

pub fields_good_lem : (limit : ℕ) (kind : EndpointType) (a n p : ℕ) → fields_good limit kind a n p ≡ true → FieldsGood limit kind a n p
fields_good_lem limit kind a n p e =
    let t = fields_tell limit kind a n p e in record { address_most = t.0; number_most = t.1; packet = t.2 }

module _ (s : Ehci) (pool : ℕ) (h : List ℕ) (f u : ℕ) (kind : EndpointType) (a n p : ℕ) where
  abbrev asked : Bool
  asked = fields_good s.settings.limit kind a n p

  -- the state and what is asked, where slot k is opened
  pub record Opens (k : ℕ) : Type 0 where
    pub accepted : accepts_of s (lengths pool (length h) f u) ≡ true
    pub never : kind ≢ Isochronous
    pub fields : FieldsGood s.settings.limit kind a n p
    pub below : k < s.settings.endpoints
    pub was_closed : endpoint_at s k ≡ Closed
    pub lower : (j : ℕ) → j < k → is_opened s j ≡ true

  opens : (k : ℕ) → Ok k ≡ chosen_of s (lengths pool (length h) f u) kind asked → Opens k
  opens k e =
      let t = open_passed s pool h f u kind a n p asked refl (Ok k) e k refl in
      let is = slot_is s pool h f u kind a n p asked refl (Ok k) e k refl in
      let r = (accepts_tells s (lengths pool (length h) f u) t.0).ranges in
      record {
        accepted = t.0;
        never = not_isochronous kind t.1;
        fields = fields_good_lem s.settings.limit kind a n p t.2;
        below = t.3;
        was_closed = rw is (lowest_closed_lem s r (omega (arith, t.3)));
        lower = λ j lt. lower_open s r j (omega (arith, t.3)) (omega arith);
      }

  -- the call either refuses and leaves all as it was, or opens the lowest closed slot
  pub open_by : (P : OpenLeft → Type 0) → ((r : Refusal) → P (open_left (record { answer = Err r; state = s }) h))
      → ((k : ℕ) → Opens k
      → P (open_left (record { answer = Ok k; state = with_endpoint s k (new_endpoint kind p) })
      (with_head h k (words_of (endpoint_head kind a n p)))))
      → P (open_endpoint_of s pool h f u kind a n p)
  open_by P denied done = by (chosen_of s (lengths pool (length h) f u) kind asked) refl
    where
      by : (o : (Result ℕ Refusal)) → o ≡ chosen_of s (lengths pool (length h) f u) kind asked
          → P (open_endpoint_of s pool h f u kind a n p)
      by (Ok k) e =
          subst P (open_done s pool h f u kind a n p asked refl (Ok k) e k refl _ _ refl refl) (done k (opens k e))
      by (Err r) e = subst P (open_refused s pool h f u kind a n p asked refl (Err r) e r refl) (denied r)

  -- ---- a slot is opened

  pub record SlotOpened (k : ℕ) (o : OpenLeft) : Type 0 where
    pub from : Opens k
    pub state_is : o.opening.state ≡ with_endpoint s k (new_endpoint kind p)
    pub words : (i : ℕ) → i < 17 → head_word o.heads (k + 1) i ≡ get_or (words_of (endpoint_head kind a n p)) i 0
    pub link : head_word o.heads (k + 1) 0 ≡ 1
    pub only : Only (17 * (k + 1)) 17 h o.heads

  slot_opened : (k : ℕ) → Opens k
      → SlotOpened k
      (open_left (record { answer = Ok k; state = with_endpoint s k (new_endpoint kind p) })
      (with_head h k (words_of (endpoint_head kind a n p))))
  unfolding endpoint_head terminated
  slot_opened k from =
      let ws : List ℕ = words_of (endpoint_head kind a n p) in
      let room = (below_room s pool h f u k from.accepted from.below).2 in
      record {
        from = from;
        state_is = refl;
        words = λ i lt. put_inside h (17 * (k + 1)) ws room i lt;
        link = put_inside h (17 * (k + 1)) ws room 0 (omega arith);
        only = put_only h (17 * (k + 1)) ws room;
      }

  pub open_tells : (k : ℕ) → (open_endpoint_of s pool h f u kind a n p).opening.answer ≡ Ok k
      → SlotOpened k (open_endpoint_of s pool h f u kind a n p)
  open_tells =
      open_by (λ o. (k : ℕ) → o.opening.answer ≡ Ok k → SlotOpened k o)
      (λ r k e. absurd (verdicts_apart r (ap open_verdict e)))
      (λ j from k e. subst
      (λ (i : ℕ). SlotOpened i
      (open_left (record { answer = Ok j; state = with_endpoint s j (new_endpoint kind p) })
      (with_head h j (words_of (endpoint_head kind a n p))))) (ap slot_of e) (slot_opened j from))

  -- a refusal leaves all as it was
  pub open_denied : (r : Refusal) → (open_endpoint_of s pool h f u kind a n p).opening.answer ≡ Err r
      → ((open_endpoint_of s pool h f u kind a n p).opening.state ≡ s) × ((open_endpoint_of s pool h f u kind a n p).heads ≡ h)
  open_denied =
      open_by (λ o. (r : Refusal) → o.opening.answer ≡ Err r → (o.opening.state ≡ s) × (o.heads ≡ h))
      (λ _ _ _. (refl, refl))
      (λ k from r e. absurd (verdicts_apart r (sym (ap open_verdict e))))

  pub open_length : length (open_endpoint_of s pool h f u kind a n p).heads ≡ length h
  open_length = open_by (λ o. length o.heads ≡ length h) (λ r. refl) (λ k from. (slot_opened k from).only.same_length)

  -- ---- the slots and the ranges

  module _ (w : Wide s) where
    pub opened_endpoint : (k : ℕ) → (open_endpoint_of s pool h f u kind a n p).opening.answer ≡ Ok k
        → endpoint_at (open_endpoint_of s pool h f u kind a n p).opening.state k ≡ new_endpoint kind p
    opened_endpoint k e =
        let t = open_tells k e in
        let room = (below_room s pool h f u k t.from.accepted t.from.below).0 in
        rw t.state_is (endpoint_same s k (new_endpoint kind p) w room tt)

    pub open_keeps : in_ranges s ≡ true → in_ranges (open_endpoint_of s pool h f u kind a n p).opening.state ≡ true
    open_keeps e =
        open_by (λ o. in_ranges o.opening.state ≡ true) (λ r. e)
        (λ k from.
        let room = (below_room s pool h f u k from.accepted from.below).0 in
        ranges_make (with_endpoint s k (new_endpoint kind p))
        (endpoint_keeps s k (ranges_tell s e) w room (new_endpoint kind p)
        (record { next_least = omega arith; never = from.never; size = from.fields.packet })
        (λ le. let lt = from.below in absurd (omega arith))))

  pub open_others : (k j : ℕ) → (open_endpoint_of s pool h f u kind a n p).opening.answer ≡ Ok k → j ≢ k
      → endpoint_at (open_endpoint_of s pool h f u kind a n p).opening.state j ≡ endpoint_at s j
  open_others k j e ne = rw (open_tells k e).state_is (endpoint_other s k (new_endpoint kind p) j ne)

  -- ---- where every earlier check passes, 2 is answered exactly where no slot below E is closed

  module _ (e : accepts_of s (lengths pool (length h) f u) ≡ true) (i : is_isochronous kind ≡ false) (g : asked ≡ true) where
    pub open_accepts : (j : ℕ) → j < s.settings.endpoints → is_opened s j ≡ false
        → (open_endpoint_of s pool h f u kind a n p).opening.answer ≡ Ok (lowest_slot s)
    unfolding open_endpoint_of open_checks
    open_accepts j lt shut = rw (e, i, g, lt-leb s.settings.endpoints (lowest_slot s) (by (ltb j (lowest_slot s)) refl))
      where
        by : (t : Bool) → ltb j (lowest_slot s) ≡ t → lowest_slot s < s.settings.endpoints
        by true q =
            let r = (accepts_tells s (lengths pool (length h) f u) e).ranges in
            let o = lower_open s r j lt (ltb-true j (lowest_slot s) q) in
            let z : ◌≡◌ {A = ℕ} 1 0 = ap flag_number (sym o ∙ shut) in
            absurd (omega arith)
        by false q = omega (arith, ltb-false j (lowest_slot s) q)

    pub open_full : ((j : ℕ) → j < s.settings.endpoints → is_opened s j ≡ true)
        → (open_endpoint_of s pool h f u kind a n p).opening.answer ≡ Err SlotLimitReached
    unfolding open_endpoint_of open_checks
    open_full all = rw (e, i, g, le-leb s.settings.endpoints (lowest_slot s) (by (leb s.settings.endpoints (lowest_slot s)) refl))
      where
        by : (t : Bool) → leb s.settings.endpoints (lowest_slot s) ≡ t → s.settings.endpoints ≤ lowest_slot s
        by true q = leb-true s.settings.endpoints (lowest_slot s) q
        by false q =
            let r = (accepts_tells s (lengths pool (length h) f u) e).ranges in
            let lt = leb-false s.settings.endpoints (lowest_slot s) q in
            let o = sym (ap has_endpoint (lowest_closed_lem s r lt)) ∙ all (lowest_slot s) lt in
            let z : ◌≡◌ {A = ℕ} 0 1 = ap flag_number o in
            absurd (omega arith)

-- the arrays of the state keep their lengths
pub open_wide : (s : Ehci) (pool : ℕ) (h : List ℕ) (f u : ℕ) (kind : EndpointType) (a n p : ℕ) → Wide s
    → Wide (open_endpoint_of s pool h f u kind a n p).opening.state
unfolding with_endpoint
open_wide s pool h f u kind a n p w =
    open_by s pool h f u kind a n p (λ o. Wide o.opening.state) (λ r. w)
    (λ k from. slot_wide s k (encoded (new_endpoint kind p)) w)
