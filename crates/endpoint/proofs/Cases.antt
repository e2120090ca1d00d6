-- The returns of the calls on endpoints, and what they may count on.
use Rattle.std.specs.Prelude.{◌≡◌, ℕ, ◌+◌, ◌*◌, ◌<◌, ◌≤◌, max, Bool, true, false, not, ◌&&◌, ◌||◌, eqb, leb, List, length, replicate, Err, Ok, Result, ⊤}
use mathlib.Core.Path.{refl, sym, ap, ◌∙◌}
use borrow.Author.Tests.{leb-false, leb-true, not-false}
use Rattle.common.specs.declared.kinds.EndpointType.{EndpointType}
use Rattle.common.specs.declared.kinds.EndpointType.TheVariants.{Control, Isochronous, Bulk, Interrupt}
use Rattle.descriptor.specs.Heads.{endpoint_head, with_address, with_packet_size, words_of}
use Rattle.common.proofs.TestLaws.{every_3, both_tells}
use Rattle.state.specs.Plain.{Ehci}
use Rattle.common.specs.declared.answer.Refusal.{Refusal}
use Rattle.common.specs.declared.answer.Refusal.TheVariants.{InvalidParameter, SlotLimitReached, InvalidEndpoint, QueueFull, NotSupported}
use Rattle.pipe.specs.declared.endpoints.Endpoint.TheVariants.{Closed, Idle}
use Rattle.pipe.specs.declared.endpoints.Pipe.{Pipe}
use Rattle.common.specs.Answers.{Verdict, first, settle}
use Rattle.pipe.specs.Endpoints.{kind_number, pipe_of, with_endpoint}
use Rattle.slot.specs.Ranges.{size_good}
use Rattle.slot.proofs.SlotLaws.{SizeGood, size_tells}
use Rattle.state.specs.Slots.{slot_at}
use Rattle.common.specs.Kinds.{is_control, is_isochronous}
use Rattle.controller.specs.Lent.{accepts_of, lengths}
use Rattle.controller.specs.Readers.{is_opened, is_uncollected}
use Rattle.opening.specs.Heads.{head_word, with_head_word}
use Rattle.common.proofs.CheckLaws.{let_pass, verdict_of}
use Rattle.endpoint.specs.Calls.{change_left, change_of, chosen_of, close_of, fields_good, slot_verdict, lowest_slot, new_endpoint, open_checks, open_endpoint_of, open_left, raised_good, set_address_of, set_packet_size_of, slot_checks, with_head, with_size}
use Rattle.endpoint.proofs.SlotLaws.{below_room, open_room}

-- ---- verdicts

verdict_there : (v : Verdict) → verdict_of (settle v Err (Ok tt)) ≡ v
verdict_there Verdict.passed = refl
verdict_there (Verdict.refused r) = refl

abbrev pub open_verdict : Result ℕ Refusal → Verdict
open_verdict (Ok k) = Verdict.passed
open_verdict (Err r) = Verdict.refused r

open_there : (v : Verdict) (k : ℕ) → open_verdict (settle v Err (Ok k)) ≡ v
open_there Verdict.passed k = refl
open_there (Verdict.refused r) k = refl

abbrev pub slot_of : Result ℕ Refusal → ℕ
slot_of (Ok k) = k
slot_of (Err r) = 0

-- ---- open endpoint: what is asked

control_none : (kind : EndpointType) → is_control kind ≡ eqb (kind_number kind) 0
control_none Control = refl
control_none Isochronous = refl
control_none Bulk = refl
control_none Interrupt = refl

pub size_is : (limit : ℕ) (kind : EndpointType) (p : ℕ) (control : Bool) → control ≡ is_control kind
    → ((leb 1 p && leb p 1024) && (control || leb p limit)) ≡ size_good limit (kind_number kind) p
unfolding size_good
size_is limit kind p control e = rw (e, control_none kind)

-- the endpoint with the size that is given
pub size_given : (p : Pipe) (x n : ℕ) → n ≡ x → record { kind = p.kind; size = n; toggle = p.toggle; next = p.next } ≡ with_size p x
size_given p x n e = rw e

module _ (limit : ℕ) (kind : EndpointType) (a n p : ℕ) where
  pub fields_is : (sized : Bool) → sized ≡ size_good limit (kind_number kind) p
      → (leb a 127 && leb n 15 && sized) ≡ fields_good limit kind a n p
  unfolding fields_good
  fields_is sized e = rw e (every_3 (leb a 127) (leb n 15) (size_good limit (kind_number kind) p))

  pub fields_tell : fields_good limit kind a n p ≡ true → (a ≤ 127) × (n ≤ 15) × SizeGood limit (kind_number kind) p
  unfolding fields_good
  fields_tell e =
      let x = both_tells (leb a 127) _ e in
      let y = both_tells (leb n 15) _ x.1 in
      let z = both_tells (size_good limit (kind_number kind) p) true y.1 in
      (leb-true a 127 x.0, leb-true n 15 y.0, size_tells limit (kind_number kind) p z.0)

-- ---- open endpoint: what is done

module _ (s : Ehci) (pool : ℕ) (h : List ℕ) (f u : ℕ) (kind : EndpointType) (a n p : ℕ) (good : Bool)
    (eg : good ≡ fields_good s.settings.limit kind a n p) (o : (Result ℕ Refusal)) (eo : o ≡ chosen_of s (lengths pool (length h) f u) kind good) where
  chosen : open_verdict o ≡ first (open_checks s (lengths pool (length h) f u) kind good)
  unfolding chosen_of
  chosen = ap open_verdict eo ∙ open_there (first (open_checks s (lengths pool (length h) f u) kind good)) (lowest_slot s)

  pub open_refused : (r : Refusal) → o ≡ Err r
      → open_left (record { answer = Err r; state = s }) h ≡ open_endpoint_of s pool h f u kind a n p
  unfolding open_endpoint_of
  open_refused r e = rw (← eg, sym chosen ∙ ap open_verdict e)

  module _ (k : ℕ) (e : o ≡ Ok k) where
    went : first (open_checks s (lengths pool (length h) f u) kind good) ≡ Verdict.passed
    went = sym chosen ∙ ap open_verdict e

    pub slot_is : k ≡ lowest_slot s
    unfolding chosen_of
    slot_is = ap slot_of (sym e ∙ eo) ∙ rw went

    -- every check let it pass
    pub open_passed : (accepts_of s (lengths pool (length h) f u) ≡ true) × (is_isochronous kind ≡ false) × (good ≡ true) × (k < s.settings.endpoints)
    unfolding open_checks
    open_passed =
        let l = let_pass (not (accepts_of s (lengths pool (length h) f u))) InvalidParameter _ went in
        let i = let_pass (is_isochronous kind) NotSupported _ l.1 in
        let g = let_pass (not good) InvalidParameter _ i.1 in
        let b = let_pass (leb s.settings.endpoints (lowest_slot s)) SlotLimitReached _ g.1 in (
          not-false (accepts_of s (lengths pool (length h) f u)) l.0,
          i.0,
          not-false good g.0,
          (rw slot_is (leb-false s.settings.endpoints (lowest_slot s) b.0)),
        )

    pub open_room_for : (k < 32) × (k + 1 ≤ 32) × (17 * (k + 1) + 17 ≤ length h)
    open_room_for = below_room s pool h f u k open_passed.0 open_passed.3

    pub open_fields : (a ≤ 127) × (n ≤ 15) × SizeGood s.settings.limit (kind_number kind) p
    open_fields = fields_tell s.settings.limit kind a n p (sym eg ∙ open_passed.2)

    pub open_done : (s' : Ehci) (h' : List ℕ) → s' ≡ with_endpoint s k (new_endpoint kind p)
        → h' ≡ with_head h k (words_of (endpoint_head kind a n p))
        → open_left (record { answer = Ok k; state = s' }) h' ≡ open_endpoint_of s pool h f u kind a n p
    unfolding open_endpoint_of
    open_done s' h' es eh = rw (es, eh, ← eg, went, slot_is)

-- ---- close, set address, set packet size: what is asked

-- ---- close, set address, set packet size: what is done

module _ (s : Ehci) (pool : ℕ) (h : List ℕ) (f u k : ℕ) (good : Bool) (a : (Result ⊤ Refusal))
    (ea : a ≡ slot_verdict s (lengths pool (length h) f u) k good) where
  judged : verdict_of a ≡ first (slot_checks s (lengths pool (length h) f u) k good)
  unfolding slot_verdict
  judged = ap verdict_of ea ∙ verdict_there (first (slot_checks s (lengths pool (length h) f u) k good))

  pub change_refused : (r : Refusal) (s' : Ehci) (h' : List ℕ) → a ≡ Err r
      → change_left (record { answer = Err r; state = s }) h ≡ change_of s pool h f u k good s' h'
  change_refused r s' h' e = rw (sym judged ∙ ap verdict_of e)

  pub change_done : (s' : Ehci) (h' : List ℕ) → a ≡ (Ok tt)
      → change_left (record { answer = Ok tt; state = s' }) h' ≡ change_of s pool h f u k good s' h'
  change_done s' h' e = rw (sym judged ∙ ap verdict_of e)

  -- every check let it pass
  pub change_passed : a ≡ (Ok tt)
      → (accepts_of s (lengths pool (length h) f u) ≡ true) × (is_opened s k ≡ true) × (is_uncollected s k ≡ false) × (good ≡ true)
  unfolding slot_checks
  change_passed e =
      let l = let_pass (not (accepts_of s (lengths pool (length h) f u))) InvalidParameter _ (sym judged ∙ ap verdict_of e) in
      let o = let_pass (not (is_opened s k)) InvalidEndpoint _ l.1 in
      let c = let_pass (is_uncollected s k) QueueFull _ o.1 in
      let g = let_pass (not good) InvalidParameter _ c.1 in (
        not-false (accepts_of s (lengths pool (length h) f u)) l.0,
        not-false (is_opened s k) o.0,
        c.0,
        not-false good g.0,
      )

  pub change_room : a ≡ (Ok tt) → (k < 32) × (k + 1 ≤ 32) × (17 * (k + 1) + 17 ≤ length h)
  change_room e = open_room s pool h f u k (change_passed e).0 (change_passed e).1

module _ (s : Ehci) (pool : ℕ) (h : List ℕ) (f u k : ℕ) (a : (Result ⊤ Refusal)) where
  pub close_refused : (r : Refusal) → a ≡ slot_verdict s (lengths pool (length h) f u) k true → a ≡ Err r
      → change_left (record { answer = Err r; state = s }) h ≡ close_of s pool h f u k
  unfolding close_of
  close_refused r ea e = change_refused s pool h f u k true a ea r _ _ e

  pub close_done : a ≡ slot_verdict s (lengths pool (length h) f u) k true → a ≡ (Ok tt) → (s' : Ehci) (h' : List ℕ)
      → s' ≡ with_endpoint s k Closed → h' ≡ with_head h k (replicate 17 0)
      → change_left (record { answer = Ok tt; state = s' }) h' ≡ close_of s pool h f u k
  unfolding close_of
  close_done ea e s' h' es eh =
      rw (es, eh) (change_done s pool h f u k true a ea (with_endpoint s k Closed) (with_head h k (replicate 17 0)) e)

  module _ (x : ℕ) where
    pub address_refused : (r : Refusal) → a ≡ slot_verdict s (lengths pool (length h) f u) k (leb x 127) → a ≡ Err r
        → change_left (record { answer = Err r; state = s }) h ≡ set_address_of s pool h f u k x
    unfolding set_address_of
    address_refused r ea e = change_refused s pool h f u k (leb x 127) a ea r _ _ e

    pub address_done : a ≡ slot_verdict s (lengths pool (length h) f u) k (leb x 127) → a ≡ (Ok tt) → (w : ℕ)
        → w ≡ with_address (head_word h (k + 1) 1) x
        → change_left (record { answer = Ok tt; state = s }) (with_head_word h (k + 1) 1 w) ≡ set_address_of s pool h f u k x
    unfolding set_address_of
    address_done ea e w ew =
        rw ew (change_done s pool h f u k (leb x 127) a ea s (with_head_word h (k + 1) 1 (with_address (head_word h (k + 1) 1) x)) e)

    pub size_refused : (r : Refusal) → a ≡ slot_verdict s (lengths pool (length h) f u) k (raised_good s k x) → a ≡ Err r
        → change_left (record { answer = Err r; state = s }) h ≡ set_packet_size_of s pool h f u k x
    unfolding set_packet_size_of
    size_refused r ea e = change_refused s pool h f u k (raised_good s k x) a ea r _ _ e

    pub size_done : a ≡ slot_verdict s (lengths pool (length h) f u) k (raised_good s k x) → a ≡ (Ok tt) → (s' : Ehci) (w : ℕ)
        → s' ≡ with_endpoint s k (Idle (with_size (pipe_of (slot_at s k)) (max x 8))) → w ≡ with_packet_size (head_word h (k + 1) 1) x
        → change_left (record { answer = Ok tt; state = s' }) (with_head_word h (k + 1) 1 w) ≡ set_packet_size_of s pool h f u k x
    unfolding set_packet_size_of
    size_done ea e s' w es ew =
        rw (es, ew)
        (change_done s pool h f u k (raised_good s k x) a ea (with_endpoint s k (Idle (with_size (pipe_of (slot_at s k)) (max x 8))))
        (with_head_word h (k + 1) 1 (with_packet_size (head_word h (k + 1) 1) x)) e)
