-- Close, set address and set packet size: what an answer tells of the state before and of what is left.
use Rattle.std.specs.Prelude.{◌≡◌, ℕ, ◌+◌, ◌*◌, ◌%◌, ◌<◌, ◌≤◌, max, Bool, true, false, leb, ◌≢◌, List, length, replicate, Err, Ok, Result, ⊤}
use mathlib.Core.Path.{refl, sym, ap, subst, ◌∙◌}
use native.Mathlib.Omega.{arith}
use borrow.Author.Tests.{leb-true}
use lib.ListN.{get_or-replicate}
use lib.Seq.{get_or-set_same}
use Rattle.descriptor.specs.EhciQueueHead.{control_endpoint, device_address, endpoint_number, endpoint_speed, head_of_list, inactivate_on_next, maximum_packet_length, nak_reload, toggle_control}
use Rattle.descriptor.specs.Heads.{with_address, with_packet_size}
use Rattle.descriptor.proofs.HeadFields.{address_reads, Characteristics, packet_reads}
use Rattle.slot.specs.declared.slot.Slot.{Slot}
use Rattle.slot.specs.Ranges.{slot_good}
use Rattle.slot.proofs.SlotLaws.{Phase, size_tells as size_told, slot_tells}
use Rattle.state.specs.Plain.{Ehci}
use Rattle.state.specs.Slots.{slot_at}
use Rattle.state.specs.Ranges.{in_ranges}
use Rattle.state.proofs.RangesLaws.{ranges_make, ranges_tell}
use Rattle.common.specs.declared.answer.Refusal.{Refusal}
use Rattle.pipe.specs.declared.endpoints.Endpoint.{Endpoint}
use Rattle.pipe.specs.declared.endpoints.Endpoint.TheVariants.{Closed, Idle}
use Rattle.pipe.specs.declared.endpoints.Pipe.{Pipe}
use Rattle.pipe.specs.Endpoints.{boundary_of, encoded, endpoint_at, pipe_of, request_of, with_endpoint}
use Rattle.controller.specs.Lent.{accepts_of, lengths}
use Rattle.controller.specs.Readers.{has_endpoint, holds_request, is_opened, is_uncollected}
use Rattle.opening.specs.Heads.{head_word, with_head_word}
use Rattle.pipe.proofs.EndpointCases.{at_slot, decode_closed, decode_idle, decode_linked, decode_unlinking}
use Rattle.pipe.proofs.EndpointLaws.{EndpointGood, OpenPipe, endpoint_keeps, endpoint_other, endpoint_same, endpoint_tells, kind_back, slot_wide, Wide}
use Rattle.common.proofs.CheckLaws.{answers_apart}
use Rattle.common.proofs.TestLaws.{false_true}
use Rattle.controller.proofs.LentLaws.{accepts_tells}
use Rattle.controller.proofs.ReaderLaws.{open_within}
use Rattle.endpoint.specs.Calls.{change_left, ChangeLeft, change_of, close_of, raised_good, slot_verdict, set_address_of, set_packet_size_of, with_head, with_size}
use Rattle.endpoint.proofs.Cases.{change_done, change_passed, change_refused}
use Rattle.common.proofs.RowLaws.{Only, only_all, put_inside, put_only, set_only}
use Rattle.endpoint.proofs.SlotLaws.{open_room}

module _ (s : Ehci) (pool : ℕ) (h : List ℕ) (f u k : ℕ) where
  -- the state and the slot, where the call is accepted: open, idle and below E
  pub record Changes : Type 0 where
    pub accepted : accepts_of s (lengths pool (length h) f u) ≡ true
    pub is_open : is_opened s k ≡ true
    pub is_idle_lem : is_uncollected s k ≡ false
    pub below : k < s.settings.endpoints

  module _ (good : Bool) (s' : Ehci) (h' : List ℕ) where
    -- a call refuses and leaves all as it was, or does what it is for
    pub change_by_lem : (P : ChangeLeft → Type 0) → ((r : Refusal) → P (change_left (record { answer = Err r; state = s }) h))
        → (Changes → good ≡ true → P (change_left (record { answer = Ok tt; state = s' }) h'))
        → P (change_of s pool h f u k good s' h')
    change_by_lem P denied done = by (slot_verdict s (lengths pool (length h) f u) k good) refl
      where
        by : (a : (Result ⊤ Refusal)) → a ≡ slot_verdict s (lengths pool (length h) f u) k good → P (change_of s pool h f u k good s' h')
        by (Ok tt) e =
            let t = change_passed s pool h f u k good (Ok tt) e refl in
            let r = (accepts_tells s (lengths pool (length h) f u) t.0).ranges in
            subst P (change_done s pool h f u k good (Ok tt) e s' h' refl)
            (done (record { accepted = t.0; is_open = t.1; is_idle_lem = t.2; below = open_within s k r t.1 }) t.3)
        by (Err r) e = subst P (change_refused s pool h f u k good (Err r) e r s' h' refl) (denied r)

    pub change_denied : (r : Refusal) → (change_of s pool h f u k good s' h').change.answer ≡ Err r
        → ((change_of s pool h f u k good s' h').change.state ≡ s) × ((change_of s pool h f u k good s' h').heads ≡ h)
    change_denied =
        change_by_lem (λ c. (r : Refusal) → c.change.answer ≡ Err r → (c.change.state ≡ s) × (c.heads ≡ h))
        (λ _ _ _. (refl, refl))
        (λ _ _ r e. absurd (answers_apart r (sym e)))

    -- what holds of what it is for holds where it answers 0
    pub change_tells : (P : ChangeLeft → Type 0) → (Changes → good ≡ true → P (change_left (record { answer = Ok tt; state = s' }) h'))
        → (change_of s pool h f u k good s' h').change.answer ≡ (Ok tt) → P (change_of s pool h f u k good s' h')
    change_tells P done =
        change_by_lem (λ c. c.change.answer ≡ (Ok tt) → P c)
        (λ r e. absurd (answers_apart r e))
        (λ from g e. done from g)

  word_room : Changes → 17 * (k + 1) + 1 < length h
  word_room from = omega (arith, (open_room s pool h f u k from.accepted from.is_open).2)

  -- ---- close

  pub record SlotClosed (c : ChangeLeft) : Type 0 where
    pub from : Changes
    pub state_is : c.change.state ≡ with_endpoint s k Closed
    pub words : (i : ℕ) → i < 17 → head_word c.heads (k + 1) i ≡ 0
    pub only : Only (17 * (k + 1)) 17 h c.heads

  slot_closed : Changes
      → SlotClosed (change_left (record { answer = Ok tt; state = with_endpoint s k Closed }) (with_head h k (replicate 17 0)))
  slot_closed from =
      let room = (open_room s pool h f u k from.accepted from.is_open).2 in
      record {
        from = from;
        state_is = refl;
        words = λ i lt. put_inside h (17 * (k + 1)) (replicate 17 0) room i lt ∙ get_or-replicate {A = ℕ} 17 i 0 0 lt;
        only = put_only h (17 * (k + 1)) (replicate 17 0) room;
      }

  pub close_tells : (close_of s pool h f u k).change.answer ≡ (Ok tt) → SlotClosed (close_of s pool h f u k)
  unfolding close_of
  close_tells e = change_tells true (with_endpoint s k Closed) (with_head h k (replicate 17 0)) SlotClosed (λ from _. slot_closed from) e

  pub close_denied : (r : Refusal) → (close_of s pool h f u k).change.answer ≡ Err r
      → ((close_of s pool h f u k).change.state ≡ s) × ((close_of s pool h f u k).heads ≡ h)
  unfolding close_of
  close_denied r e = change_denied true (with_endpoint s k Closed) (with_head h k (replicate 17 0)) r e

  -- no word but those of its head, whatever is answered
  pub close_only : Only (17 * (k + 1)) 17 h (close_of s pool h f u k).heads
  unfolding close_of
  close_only =
      change_by_lem true (with_endpoint s k Closed) (with_head h k (replicate 17 0)) (λ c. Only (17 * (k + 1)) 17 h c.heads)
      (λ r. only_all (17 * (k + 1)) 17 h) (λ from _. (slot_closed from).only)

  pub close_keeps : Wide s → in_ranges s ≡ true → in_ranges (close_of s pool h f u k).change.state ≡ true
  unfolding close_of
  close_keeps w e =
      change_by_lem true (with_endpoint s k Closed) (with_head h k (replicate 17 0)) (λ c. in_ranges c.change.state ≡ true) (λ r. e)
      (λ from _.
      let room = (open_room s pool h f u k from.accepted from.is_open).0 in
      ranges_make (with_endpoint s k Closed) (endpoint_keeps s k (ranges_tell s e) w room Closed tt (λ le. refl)))

  pub closed_endpoint : Wide s → (close_of s pool h f u k).change.answer ≡ (Ok tt)
      → endpoint_at (close_of s pool h f u k).change.state k ≡ Closed
  closed_endpoint w e =
      let t = close_tells e in
      let room = (open_room s pool h f u k t.from.accepted t.from.is_open).0 in
      rw t.state_is (endpoint_same s k Closed w room tt)

  -- of the others nothing changes, whatever is answered
  pub close_others : (j : ℕ) → j ≢ k → endpoint_at (close_of s pool h f u k).change.state j ≡ endpoint_at s j
  unfolding close_of
  close_others j ne =
      change_by_lem true (with_endpoint s k Closed) (with_head h k (replicate 17 0)) (λ c. endpoint_at c.change.state j ≡ endpoint_at s j)
      (λ r. refl) (λ from _. endpoint_other s k Closed j ne)

  -- ---- set address: word 1 alone

  pub record WordSet (w : ℕ) (c : ChangeLeft) : Type 0 where
    pub from : Changes
    pub word : head_word c.heads (k + 1) 1 ≡ w
    pub only : Only (17 * (k + 1) + 1) 1 h c.heads

  word_set : (w : ℕ) (s' : Ehci) → Changes → WordSet w (change_left (record { answer = Ok tt; state = s' }) (with_head_word h (k + 1) 1 w))
  word_set w s' from =
      record {
        from = from;
        word = get_or-set_same h (17 * (k + 1) + 1) w 0 (word_room from);
        only = set_only h (17 * (k + 1) + 1) w;
      }

  word_only : (good : Bool) (w : ℕ) (s' : Ehci)
      → Only (17 * (k + 1) + 1) 1 h (change_of s pool h f u k good s' (with_head_word h (k + 1) 1 w)).heads
  word_only good w s' =
      change_by_lem good s' (with_head_word h (k + 1) 1 w) (λ c. Only (17 * (k + 1) + 1) 1 h c.heads)
      (λ r. only_all (17 * (k + 1) + 1) 1 h) (λ from _. (word_set w s' from).only)

  module _ (a : ℕ) where
    pub address_tells : (set_address_of s pool h f u k a).change.answer ≡ (Ok tt)
        → (a ≤ 127) × WordSet (with_address (head_word h (k + 1) 1) a) (set_address_of s pool h f u k a)
    unfolding set_address_of
    address_tells e =
        let w : ℕ = with_address (head_word h (k + 1) 1) a in
        change_tells (leb a 127) s (with_head_word h (k + 1) 1 w) (λ c. (a ≤ 127) × WordSet w c)
        (λ from g. (leb-true a 127 g, word_set w s from)) e

    pub address_denied : (r : Refusal) → (set_address_of s pool h f u k a).change.answer ≡ Err r
        → (set_address_of s pool h f u k a).heads ≡ h
    unfolding set_address_of
    address_denied r e = (change_denied (leb a 127) s (with_head_word h (k + 1) 1 (with_address (head_word h (k + 1) 1) a)) r e).1

    pub address_state : (set_address_of s pool h f u k a).change.state ≡ s
    unfolding set_address_of
    address_state =
        change_by_lem (leb a 127) s (with_head_word h (k + 1) 1 (with_address (head_word h (k + 1) 1) a)) (λ c. c.change.state ≡ s)
        (λ r. refl) (λ _ _. refl)

    -- no word but that one, whatever is answered
    pub address_only : Only (17 * (k + 1) + 1) 1 h (set_address_of s pool h f u k a).heads
    unfolding set_address_of
    address_only = word_only (leb a 127) (with_address (head_word h (k + 1) 1) a) s

  -- ---- set packet size: word 1, and the size of the slot

  abbrev slot : Slot
  slot = slot_at s k

  -- the slot of a call that is let pass is idle, and its kind is that of a slot that is open
  module _ (from : Changes) where
    room : k < 32
    room = (open_room s pool h f u k from.accepted from.is_open).0

    good_here : slot_good s.settings.endpoints s.settings.limit k s.unanswered slot ≡ true
    good_here = (accepts_tells s (lengths pool (length h) f u) from.accepted).ranges.slots k room

    by_phase : Phase slot s.unanswered → (slot.phase ≡ 1) × (slot.kind ≤ 3)
    by_phase (Phase.closed p _ _ _) =
        absurd (false_true (ap has_endpoint (at_slot s k slot Closed room refl (decode_closed slot (λ q. omega arith) (λ q. omega arith) (λ q. omega arith))) ∙ from.is_open))
    by_phase (Phase.idle p o _) = (p, o.most)
    by_phase (Phase.linked p _ _ _ _ _) =
        absurd (false_true (sym from.is_idle_lem ∙ sym (ap holds_request (at_slot s k slot _ room refl (decode_linked slot (pipe_of slot) (request_of slot) p refl refl)))))
    by_phase (Phase.unlinking p _ _ _ _ _) =
        absurd (false_true (sym from.is_idle_lem ∙ sym (ap holds_request (at_slot s k slot _ room refl (decode_unlinking slot (pipe_of slot) (request_of slot) (boundary_of slot) p refl refl refl)))))

    idle_here : (slot.phase ≡ 1) × (slot.kind ≤ 3)
    idle_here = by_phase (slot_tells s.settings.endpoints s.settings.limit k s.unanswered slot good_here).by_phase

    pub idle_pipe : endpoint_at s k ≡ Idle (pipe_of slot)
    idle_pipe = sym (at_slot s k slot (Idle (pipe_of slot)) room refl (decode_idle slot (pipe_of slot) idle_here.0 refl))

    was_good : OpenPipe s.settings.limit (pipe_of slot)
    was_good =
        subst (λ (y : Endpoint). EndpointGood s.settings.limit s.unanswered y) (sym (decode_idle slot (pipe_of slot) idle_here.0 refl))
        (endpoint_tells s.settings.endpoints s.settings.limit k s.unanswered slot good_here)

    -- a size that is let pass is in its range
    pub resized_good : (x : ℕ) → raised_good s k x ≡ true → OpenPipe s.settings.limit (with_size (pipe_of slot) (max x 8))
    resized_good x g =
        record {
          next_least = was_good.next_least;
          never = was_good.never;
          size = rw (kind_back slot.kind idle_here.1) (size_told s.settings.limit slot.kind (max x 8) g);
        }

  module _ (x : ℕ) where
    abbrev resized : Pipe
    resized = with_size (pipe_of slot) (max x 8)

    abbrev sized : Ehci
    sized = with_endpoint s k (Idle resized)

    abbrev word : ℕ
    word = with_packet_size (head_word h (k + 1) 1) x

    pub record SizeSet (c : ChangeLeft) : Type 0 where
      pub written : WordSet word c
      pub good : OpenPipe s.settings.limit resized
      pub state_is : c.change.state ≡ sized

    pub size_tells : (set_packet_size_of s pool h f u k x).change.answer ≡ (Ok tt) → SizeSet (set_packet_size_of s pool h f u k x)
    unfolding set_packet_size_of
    size_tells e =
        change_tells (raised_good s k x) sized (with_head_word h (k + 1) 1 word) SizeSet
        (λ from g. record { written = word_set word sized from; good = resized_good from x g; state_is = refl }) e

    pub size_denied : (r : Refusal) → (set_packet_size_of s pool h f u k x).change.answer ≡ Err r
        → ((set_packet_size_of s pool h f u k x).change.state ≡ s) × ((set_packet_size_of s pool h f u k x).heads ≡ h)
    unfolding set_packet_size_of
    size_denied r e = change_denied (raised_good s k x) sized (with_head_word h (k + 1) 1 word) r e

    -- no word but that one, whatever is answered
    pub size_only : Only (17 * (k + 1) + 1) 1 h (set_packet_size_of s pool h f u k x).heads
    unfolding set_packet_size_of
    size_only = word_only (raised_good s k x) word sized

    pub size_keeps : Wide s → in_ranges s ≡ true → in_ranges (set_packet_size_of s pool h f u k x).change.state ≡ true
    unfolding set_packet_size_of
    size_keeps w e =
        change_by_lem (raised_good s k x) sized (with_head_word h (k + 1) 1 word) (λ c. in_ranges c.change.state ≡ true) (λ r. e)
        (λ from g. ranges_make sized
        (endpoint_keeps s k (ranges_tell s e) w (room from) (Idle resized) (resized_good from x g)
        (λ le. let lt = from.below in absurd (omega arith))))

    pub sized_endpoint : Wide s → (set_packet_size_of s pool h f u k x).change.answer ≡ (Ok tt)
        → endpoint_at (set_packet_size_of s pool h f u k x).change.state k ≡ Idle resized
    sized_endpoint w e =
        let t = size_tells e in rw t.state_is (endpoint_same s k (Idle resized) w (room t.written.from) tt)

    -- of the others nothing changes, whatever is answered
    pub size_others : (j : ℕ) → j ≢ k → endpoint_at (set_packet_size_of s pool h f u k x).change.state j ≡ endpoint_at s j
    unfolding set_packet_size_of
    size_others j ne =
        change_by_lem (raised_good s k x) sized (with_head_word h (k + 1) 1 word) (λ c. endpoint_at c.change.state j ≡ endpoint_at s j)
        (λ r. refl) (λ from _. endpoint_other s k (Idle resized) j ne)

-- ---- what EHCI 3.6.2 reads in the word

module _ (s : Ehci) (pool : ℕ) (h : List ℕ) (f u k : ℕ) where
  abbrev was : ℕ
  was = head_word h (k + 1) 1

  -- the address that was asked, and every other field as before
  pub address_fields : (a : ℕ) → (set_address_of s pool h f u k a).change.answer ≡ (Ok tt)
      → Characteristics (head_word (set_address_of s pool h f u k a).heads (k + 1) 1) a (inactivate_on_next was)
      (endpoint_number was) (endpoint_speed was) (toggle_control was) (head_of_list was) (maximum_packet_length was)
      (control_endpoint was) (nak_reload was)
  address_fields a e =
      let t = address_tells s pool h f u k a e in
      let small : a % 128 ≡ a = omega (arith, t.0) in
      subst
      (λ (v : ℕ). Characteristics v a (inactivate_on_next was) (endpoint_number was) (endpoint_speed was) (toggle_control was)
      (head_of_list was) (maximum_packet_length was) (control_endpoint was) (nak_reload was)) (sym t.1.word)
      (subst
      (λ (b : ℕ). Characteristics (with_address was a) b (inactivate_on_next was) (endpoint_number was) (endpoint_speed was)
      (toggle_control was) (head_of_list was) (maximum_packet_length was) (control_endpoint was) (nak_reload was)) small
      (address_reads was a))

  -- the size raised to 8, and every other field as before
  pub size_fields : (x : ℕ) → x < 256 → (set_packet_size_of s pool h f u k x).change.answer ≡ (Ok tt)
      → Characteristics (head_word (set_packet_size_of s pool h f u k x).heads (k + 1) 1) (device_address was) (inactivate_on_next was)
      (endpoint_number was) (endpoint_speed was) (toggle_control was) (head_of_list was) (max x 8) (control_endpoint was)
      (nak_reload was)
  size_fields x lt e =
      subst
      (λ (v : ℕ). Characteristics v (device_address was) (inactivate_on_next was) (endpoint_number was) (endpoint_speed was)
      (toggle_control was) (head_of_list was) (max x 8) (control_endpoint was) (nak_reload was))
      (sym (size_tells s pool h f u k x e).written.word) (packet_reads was x (omega (arith, lt)))

-- the arrays of the state keep their lengths
module _ (s : Ehci) (pool : ℕ) (h : List ℕ) (f u k : ℕ) (w : Wide s) where
  pub close_wide : Wide (close_of s pool h f u k).change.state
  unfolding close_of with_endpoint
  close_wide =
      change_by_lem s pool h f u k true (with_endpoint s k Closed) (with_head h k (replicate 17 0)) (λ c. Wide c.change.state) (λ r. w)
      (λ from _. slot_wide s k (encoded Closed) w)

  pub size_wide : (x : ℕ) → Wide (set_packet_size_of s pool h f u k x).change.state
  unfolding set_packet_size_of with_endpoint
  size_wide x =
      change_by_lem s pool h f u k (raised_good s k x) _ _ (λ c. Wide c.change.state) (λ r. w)
      (λ from _. slot_wide s k (encoded (Idle (with_size (pipe_of (slot_at s k)) (max x 8)))) w)
