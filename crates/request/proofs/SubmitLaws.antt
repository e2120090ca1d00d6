-- What an accepted submit leaves: room is exact, its chain may be written and leads over its places, what stays.
use Rattle.std.specs.Prelude.{◌≡◌, ℕ, zero, suc, ◌+◌, ◌-◌, ◌*◌, ◌%◌, ◌^◌, ◌<◌, ◌≤◌, Bool, true, false, cond, eqb, ltb, ◌≢◌, List, [], ◌∷◌, ◌++◌, map, length, get_or, take, drop, set, Err}
use mathlib.Core.Path.{refl, sym, ap, subst, ◌∙◌}
use native.Mathlib.Omega.{arith}
use borrow.Author.Tests.{eqb-true, leb-true, ltb-true, ltb-false}
use lib.ListN.{length-take}
use lib.Seq.{get_or-append-add, get_or-drop, get_or-set_other, get_or-take, length-take-le, take_at}
use Rattle.common.specs.declared.kinds.EndpointType.{EndpointType}
use Rattle.descriptor.specs.Descriptors.{word_of_next}
use Rattle.descriptor.specs.declared.qtd.QueueTransferDescriptor.{QueueTransferDescriptor}
use Rattle.pool.specs.Chains.{blank, chain_good, fill_of, next_at}
use Rattle.pool.specs.EhciChain.{follow}
use Rattle.pool.specs.Places.{Each, Within, mark_of, packed, places_from}
use Rattle.pool.specs.Transfers.{address_of, next_of}
use Rattle.pool.specs.Plain.{Transfer as TransferDeed}
use Rattle.pool.proofs.ChainLaws.{filled_others, follow_chain}
use Rattle.pool.proofs.Each.{each_at, each_map}
use Rattle.settings.specs.Settings.{pool_length}
use Rattle.pool.proofs.GoodLaws.{packed_good, request_good}
use Rattle.pool.proofs.PlaceLaws.{list_packed, mark_either, mark_length, mark_others, places_ascend, places_hold, places_within}
use Rattle.slot.proofs.SlotLaws.{SlotGood, slot_tells}
use Rattle.common.proofs.TestLaws.{both_tells}
use Rattle.state.specs.Slots.{slot_at}
use Rattle.state.specs.State.{with_owner}
use Rattle.state.specs.Plain.{Ehci}
use Rattle.state.proofs.RangesLaws.{Ranges}
use Rattle.common.specs.declared.answer.Refusal.TheVariants.{NoMemory}
use Rattle.pipe.specs.Endpoints.{endpoint_at, kind_number}
use Rattle.common.specs.Kinds.{is_interrupt, is_isochronous}
use Rattle.pipe.proofs.EndpointLaws.{Wide, endpoint_keeps, endpoint_other, owner_aside, owner_keeps, owner_wide}
use Rattle.common.proofs.KindLaws.{not_isochronous}
use Rattle.schedule.proofs.OverlayLaws.{started_word}
use Rattle.schedule.specs.Links.{attached_frames, attached_ring, started_overlay}
use Rattle.controller.specs.Readers.{free_count, is_opened, is_uncollected}
use Rattle.common.proofs.CheckLaws.{answers_apart}
use Rattle.controller.proofs.FreeLaws.{free_places}
use Rattle.controller.proofs.ReaderLaws.{open_below, open_phase, open_within}
use Rattle.pipe.proofs.LimitLaws.{limit_least, limit_most}
use Rattle.request.specs.Submit.{attached_by, buffer_good, chain_for, first_in, id_at, judge_of, linked_rows, linked_with, need_of_request, places_for, ranges_good, state_with, taken_for, taken_of, transfer_of}
use Rattle.slot.specs.Ids.{after_id}
use Rattle.request.specs.declared.judge.TransferRequest.{TransferRequest}
use Rattle.request.proofs.JudgeCases.{judge_done, judge_room}
use Rattle.request.proofs.JudgeLaws.{free_le, Judged}
use Rattle.request.proofs.SettleCases.{packed_first}

-- ---- room: where every earlier check is passed, 6 exactly when too few descriptors are free

module _ (s : Ehci) (k : ℕ) (t : TransferRequest) (o : is_opened s k ≡ true) (runs : s.running ≡ 0 → ⊥) (bare : is_uncollected s k ≡ false)
    (supported : is_isochronous t.kind ≡ false) (same : kind_number t.kind ≡ (slot_at s k).kind) (good : ranges_good t ≡ true) where
  pub room_lacks : free_count s < need_of_request s k t → judge_of s k t ≡ Err NoMemory
  room_lacks h =
      sym (judge_room s k t true (sym o) refl false runs (sym bare) refl false (sym supported) refl (kind_number t.kind) refl same true (sym good) refl
      (free_count s) (need_of_request s k t) refl refl h)

  pub room_told : judge_of s k t ≡ Err NoMemory → free_count s < need_of_request s k t
  room_told e = by (ltb (free_count s) (need_of_request s k t)) refl
    where
      by : (b : Bool) → ltb (free_count s) (need_of_request s k t) ≡ b → free_count s < need_of_request s k t
      by true h = ltb-true (free_count s) (need_of_request s k t) h
      by false h =
          absurd (answers_apart NoMemory (sym e
          ∙ sym (judge_done s k t true (sym o) refl false runs (sym bare) refl false (sym supported) refl (kind_number t.kind) refl same true (sym good) refl
          (free_count s) (need_of_request s k t) refl refl (ltb-false (free_count s) (need_of_request s k t) h))))

-- ---- the chain

buffer_tells : (a n : ℕ) → buffer_good a n ≡ true → n ≤ 2 ^ 32 - a
unfolding buffer_good
buffer_tells a n e = by (eqb n 0) refl
  where
    by : (b : Bool) → eqb n 0 ≡ b → n ≤ 2 ^ 32 - a
    by true h = omega (arith, eqb-true n 0 h)
    by false h = omega (arith, leb-true (a + n) (2 ^ 32) (rw h at e))

pub buffer_ends : (t : TransferRequest) → ranges_good t ≡ true → t.length ≤ 2 ^ 32 - t.address
unfolding ranges_good
buffer_ends t e = buffer_tells t.address t.length (both_tells (buffer_good t.address t.length) _ e).0

first_next : (base : ℕ) (ps : List ℕ) → base % 64 ≡ 0 → 1 ≤ length ps → address_of base (get_or (packed ps).at 0 0) ≡ word_of_next (next_of base ps)
first_next base [] a h = absurd (omega arith)
first_next base (p ∷ ps) a h = rw (packed_first (p ∷ ps)) (omega arith)

module _ (s : Ehci) (k : ℕ) (t : TransferRequest) (r : Ranges s) (j : Judged s k t) (wide : length s.owner ≡ 256) where
  owners : List ℕ
  owners = take s.settings.descriptors s.owner

  owners_length : length owners ≡ s.settings.descriptors
  unfolding owners
  owners_length = length-take-le s.settings.descriptors s.owner (omega (arith, r.good.descriptors_most))

  -- as many places as it needs
  pub places_needed : length (places_for s k t) ≡ need_of_request s k t
  places_needed = free_places s (need_of_request s k t) ∙ omega (arith, j.room)

  -- places of the row, which has one record more than the places that are lent
  row_within : Within (pool_length s.settings) (places_for s k t)
  unfolding owners
  row_within =
      each_map (λ (i : ℕ). i < length owners) (λ (i : ℕ). i < pool_length s.settings) (λ i h. omega (arith, h, owners_length)) (places_for s k t)
      (places_within owners 0 (need_of_request s k t))

  -- the pool may be told to write it
  pub submit_good : chain_good (pool_length s.settings) (chain_for s k t (taken_for s k t))
  unfolding taken_for taken_of
  submit_good =
      packed_good (pool_length s.settings) s.settings.pool (TransferDeed (transfer_of s k t)) (places_for s k t)
      (omega (arith, places_needed, j.room, free_le s, r.good.descriptors_most)) row_within
      (request_good (transfer_of s k t) s.settings.pool (pool_length s.settings) (length (places_for s k t)) r.good.pool_ends (buffer_ends t j.in_range)
      (omega (arith, open_within s k r j.opened, r.good.setups_end)) (limit_least s r k (open_below s k j.opened)) (limit_most s r k) places_needed)

  -- from the overlay's next pointer on EHCI's walk meets exactly its places' addresses, ascending, and ends
  pub submit_met : (rows : List QueueTransferDescriptor) (m : ℕ) → length rows ≡ pool_length s.settings → 1 ≤ need_of_request s k t → need_of_request s k t ≤ m
      → follow (next_at s.settings.pool (fill_of (chain_for s k t (taken_for s k t)) rows)) m (first_in s (taken_for s k t))
      ≡ map (address_of s.settings.pool) (places_for s k t)
  unfolding taken_for taken_of fill_of owners
  submit_met rows m e one most =
      rw (first_next s.settings.pool (places_for s k t) r.good.pool_aligned (omega (arith, places_needed)), list_packed (places_for s k t))
      (follow_chain (transfer_of s k t) s.settings.pool m (places_for s k t) rows r.good.pool_aligned (omega (arith, e, r.good.pool_ends))
      (places_ascend 0 owners 0 (need_of_request s k t)) (subst (λ (n : ℕ). Within n (places_for s k t)) (sym e) row_within)
      (omega (arith, places_needed)))

-- ---- what stays

pub submit_others : (s : Ehci) (o : List ℕ) (k i : ℕ) (t : TransferRequest) → i ≢ k → endpoint_at (state_with s o k t) i ≡ endpoint_at s i
unfolding state_with
submit_others s o k i t ne = endpoint_other (with_owner s o) k (linked_with s k t) i ne ∙ owner_aside s o i

-- every other slot's places
pub submit_places : (s : Ehci) (k y m : ℕ) (t : TransferRequest) → Ranges s → length s.owner ≡ 256 → y ≢ k + 1 → y ≢ 0
    → places_from 0 (take s.settings.descriptors (taken_for s k t).owner) y m ≡ places_from 0 (take s.settings.descriptors s.owner) y m
unfolding taken_for taken_of
submit_places s k y m t r wide nx nz =
    let o = take s.settings.descriptors s.owner in
    let long : length (mark_of o (need_of_request s k t) (k + 1)) ≡ s.settings.descriptors =
    mark_length o (need_of_request s k t) (k + 1) ∙ length-take-le s.settings.descriptors s.owner (omega (arith, r.good.descriptors_most)) in
    rw (take_at (mark_of o (need_of_request s k t) (k + 1)) (drop s.settings.descriptors s.owner) s.settings.descriptors long)
    (mark_others 0 o (need_of_request s k t) (k + 1) y m nx nz)

-- a record that belongs to a request is not written
pub submit_records : (s : Ehci) (k p : ℕ) (t : TransferRequest) (rows : List QueueTransferDescriptor)
    → (get_or (take s.settings.descriptors s.owner) p 0 ≡ 0 → ⊥)
    → get_or (fill_of (chain_for s k t (taken_for s k t)) rows) p blank ≡ get_or rows p blank
unfolding taken_for taken_of fill_of
submit_records s k p t rows ne =
    rw (list_packed (places_for s k t))
    (filled_others (TransferDeed (transfer_of s k t)) s.settings.pool 0 (places_for s k t) rows p
    (each_map (λ (q : ℕ). get_or (take s.settings.descriptors s.owner) q 0 ≡ 0) (λ (q : ℕ). p ≡ q → ⊥) (λ q h e. ne (ap (λ (z : ℕ). get_or (take s.settings.descriptors s.owner) z 0) e ∙ h))
    (places_from 0 (take s.settings.descriptors s.owner) 0 (need_of_request s k t))
    (places_hold (take s.settings.descriptors s.owner) 0 (need_of_request s k t))))

-- of the heads' words only the ring head's link, and of the slot's head link, next, alternate and token
module _ (heads frames : List ℕ) (k link first token i : ℕ) (n0 : i ≢ 0) (n1 : i ≢ 17 * (k + 1)) (n4 : i ≢ 17 * (k + 1) + 4)
    (n5 : i ≢ 17 * (k + 1) + 5) (n6 : i ≢ 17 * (k + 1) + 6) where
  overlay_word : get_or (started_overlay heads k first token) i 0 ≡ get_or heads i 0
  overlay_word = started_word heads k first token i n4 n5 n6

  attached_word : (b : Bool) → get_or (attached_by b (started_overlay heads k first token) frames k link).heads i 0 ≡ get_or heads i 0
  unfolding attached_frames attached_ring
  attached_word true = get_or-set_other (started_overlay heads k first token) (17 * (k + 1)) i (get_or frames 0 0) 0 n1 ∙ overlay_word
  attached_word false =
      let started = started_overlay heads k first token in
      let one = set started (17 * (k + 1)) (get_or started 0 0) in
      get_or-set_other one 0 i link 0 n0 ∙ get_or-set_other started (17 * (k + 1)) i (get_or started 0 0) 0 n1 ∙ overlay_word

  pub submit_words : (kind : EndpointType) → get_or (linked_rows heads frames kind k link first token).heads i 0 ≡ get_or heads i 0
  unfolding linked_rows
  submit_words kind = attached_word (is_interrupt kind)

-- ---- an accepted submit keeps the ranges

each_from_lem : (P : ℕ → Type 0) (l : List ℕ) → ((i : ℕ) → i < length l → P (get_or l i 0)) → Each P l
each_from_lem P [] f = tt
each_from_lem P (x ∷ l) f = (f 0 (omega arith), each_from_lem P l (λ i h. f (suc i) (omega arith)))

append_at : (a b : List ℕ) (i : ℕ) → i < length a → get_or (a ++ b) i 0 ≡ get_or a i 0
append_at [] b i h = absurd (omega arith)
append_at (x ∷ a) b zero h = refl
append_at (x ∷ a) b (suc i) h = append_at a b i (omega arith)

id_least : (id : ℕ) → 1 ≤ after_id id
unfolding after_id
id_least id = by (eqb id (2 ^ 64 - 1))
  where
    by : (b : Bool) → 1 ≤ cond b 1 (id + 1)
    by true = omega arith
    by false = omega arith

module _ (s : Ehci) (k : ℕ) (t : TransferRequest) (r : Ranges s) (j : Judged s k t) (w : Wide s) (wide : length s.owner ≡ 256) where
  marked : List ℕ
  marked = mark_of (take s.settings.descriptors s.owner) (need_of_request s k t) (k + 1)

  marked_length : length marked ≡ s.settings.descriptors
  unfolding marked
  marked_length =
      mark_length (take s.settings.descriptors s.owner) (need_of_request s k t) (k + 1)
      ∙ length-take-le s.settings.descriptors s.owner (omega (arith, r.good.descriptors_most))

  below : k < s.settings.endpoints
  below = open_within s k r j.opened

  owned_all : Each (λ (x : ℕ). x ≤ s.settings.endpoints) marked
  unfolding marked
  owned_all =
      mark_either (λ (x : ℕ). x ≤ s.settings.endpoints) (take s.settings.descriptors s.owner) (need_of_request s k t) (k + 1)
      (each_from_lem (λ (x : ℕ). x ≤ s.settings.endpoints) (take s.settings.descriptors s.owner) each)
      (omega (arith, below))
    where
      each : (i : ℕ) → i < length (take s.settings.descriptors s.owner) → get_or (take s.settings.descriptors s.owner) i 0 ≤ s.settings.endpoints
      each i h =
          let lt : i < s.settings.descriptors = omega (arith, length-take s.settings.descriptors s.owner) in
          rw (get_or-take s.settings.descriptors s.owner i 0 lt) (r.owned i lt)

  owned_below : (i : ℕ) → i < s.settings.descriptors → get_or (marked ++ drop s.settings.descriptors s.owner) i 0 ≤ s.settings.endpoints
  owned_below i h =
      let lt : i < length marked = omega (arith, marked_length) in
      rw (append_at marked (drop s.settings.descriptors s.owner) i lt) (each_at (λ (x : ℕ). x ≤ s.settings.endpoints) marked i owned_all lt)

  unowned_past : (i : ℕ) → s.settings.descriptors ≤ i → get_or (marked ++ drop s.settings.descriptors s.owner) i 0 ≡ 0
  unowned_past i h =
      let at : length marked + (i - s.settings.descriptors) ≡ i = omega (arith, marked_length) in
      let on : s.settings.descriptors + (i - s.settings.descriptors) ≡ i = omega arith in
      ap (λ (z : ℕ). get_or (marked ++ drop s.settings.descriptors s.owner) z 0) (sym at)
      ∙ get_or-append-add marked (drop s.settings.descriptors s.owner) (i - s.settings.descriptors) 0
      ∙ get_or-drop s.settings.descriptors s.owner (i - s.settings.descriptors) 0
      ∙ ap (λ (z : ℕ). get_or s.owner z 0) on ∙ r.unowned i h

  taken_keeps : Ranges (with_owner s (taken_for s k t).owner)
  unfolding taken_for taken_of marked
  taken_keeps = owner_keeps s (taken_for s k t).owner r owned_below unowned_past

  pub submit_keeps : Ranges (state_with s (taken_for s k t).owner k t)
  unfolding state_with with_owner
  submit_keeps =
      endpoint_keeps (with_owner s (taken_for s k t).owner) k taken_keeps (owner_wide s (taken_for s k t).owner w) (open_below s k j.opened) (linked_with s k t)
      (record {
        pipe =
            record {
              next_least = id_least (id_at s k);
              never = not_isochronous t.kind j.supported;
              size = rw j.same_kind (here.size_open (open_phase s k j.opened));
            };
        request_least = here.id_least;
        uncancelled = refl;
      })
      (λ h. absurd (past h))
    where
      here : SlotGood s.settings.endpoints s.settings.limit k s.unanswered (slot_at s k)
      here =
          slot_tells s.settings.endpoints s.settings.limit k s.unanswered (slot_at s k) (r.slots k (open_below s k j.opened))

      past : s.settings.endpoints ≤ k → ⊥
      past h = omega (arith, h, below)
