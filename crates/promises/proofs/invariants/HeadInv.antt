-- The packet size that the controller reads in an open slot's head is the one that the history tells.
use Prim.Native.Nat.{ℕ, ◌+◌, ◌*◌, ◌≤◌, ◌<◌}
use mathlib.Core.Bool.{cond}
use mathlib.Core.List.{List, [], ◌∷◌}
use mathlib.Core.Logic.{◌≢◌}
use mathlib.Core.Path.{◌≡◌, refl, sym, ap, subst, subst₂, ◌∙◌}
use native.Mathlib.Decide.{ℕ_discrete as dec_eq}
use native.Mathlib.Omega.{arith}
use borrow.Author.Tests.{eq-eqb, ne_eqb}
use lib.Dec.{eqb}
use lib.ListN.{get_or, length, replicate}
use lib.Seq.{get_or-set_other, get_or-set_same}
use Rattle.common.proofs.RowLaws.{put_inside, put_only, Only}
use Rattle.descriptor.specs.EhciQueueHead.{maximum_packet_length}
use Rattle.descriptor.specs.Heads.{endpoint_head, words_of}
use Rattle.settings.specs.declared.settings.Settings.{Settings}
use Rattle.pipe.specs.declared.endpoints.Endpoint.TheVariants.{Idle, Unlinking}
use Rattle.opening.specs.Heads.{with_head_word}
use Rattle.opening.proofs.HeadLaws.{other_head}
use Rattle.endpoint.specs.Calls.{with_head}
use Rattle.request.proofs.SubmitLaws.{submit_words}
use Rattle.collection.proofs.CollectLaws.{ended_others}
use Rattle.ehci.specs.declared.call.Call.{Call}
use Rattle.ehci.specs.Door.{Applied}
use Rattle.promises.specs.Runs.{History, Opening, Rows, Turn, World, left_by, rows_of, turn_of}
use Rattle.promises.specs.Packets.{Sized}
use Rattle.promises.specs.Slots.{Change, ClosesSlot, Halted, Open, OpensSlot, ResizesSlot, Running, Same, Shut, SlotKind, change, resized, slot_after, slot_in, ClearsHalt}
use Rattle.promises.specs.Submissions.{word_at}
use Rattle.promises.proofs.effects.Effects.{Effect, Switches, accepts, closes, collects, counts, hears, joins, marks, opens, passes, resizes, rewrites, still, unlinks, writes_back, clears}
use Rattle.promises.proofs.invariants.Sound.{Sound, head_within, of_state}
use Rattle.promises.proofs.invariants.UseSteps.{detach_word, head_length}

abbrev pub Headed : History → Rows → Type 0
Headed h rows = (k : ℕ) → Sized (slot_in k h) (word_at rows k 1)

pub headed_opens : (s : Settings) (w : World) → Opening s w → Headed [] w.rows
unfolding slot_in
headed_opens s w o k = tt

-- a change that is none of a slot
switches_stay : (x : Change) (before after j : ℕ) (old : SlotKind) → Switches x before after → slot_after j x old ≡ old
switches_stay Same before after j old s = refl
switches_stay (OpensSlot k kind size) before after j old s = absurd s
switches_stay (ResizesSlot k size) before after j old s = absurd s
switches_stay (ClosesSlot k) before after j old s = absurd s
switches_stay (ClearsHalt k) before after j old s = absurd s
switches_stay Halted before after j old s = refl
switches_stay Running before after j old s = refl

-- a slot that is given a size and stays open has it
resized_sized : (old : SlotKind) (size word : ℕ) → maximum_packet_length word ≡ size → Sized (resized old size) word
resized_sized Shut size word e = tt
resized_sized (Open kind was) size word e = e

-- so does one whose word tells the same
sized_alike : (x : SlotKind) (new old : ℕ) → maximum_packet_length new ≡ maximum_packet_length old → Sized x old → Sized x new
sized_alike Shut new old e z = tt
sized_alike (Open kind size) new old e z = e ∙ z

module _ (w : World) (c : Call) (a : Applied) (h : History) (sound : Sound w.state.settings w) (headed : Headed h w.rows) where
  abbrev t : Turn
  t = turn_of w.rows c a

  abbrev heads : List ℕ
  heads = w.rows.heads

  abbrev word_of : List ℕ → ℕ → ℕ
  word_of hs k = get_or hs (17 * (k + 1) + 1) 0

  abbrev WordStays : ℕ → Type 0
  WordStays j = word_at (rows_of a) j 1 ≡ word_at w.rows j 1

  same_rows : (rows : Rows) → rows_of a ≡ rows → ((j : ℕ) → word_at rows j 1 ≡ word_at w.rows j 1) → (j : ℕ) → WordStays j
  same_rows rows e same j = ap (λ (r : Rows). word_at r j 1) e ∙ same j

  -- neither a slot changes nor the word of one
  stay : ((j : ℕ) → slot_after j (change t) (slot_in j h) ≡ slot_in j h) → ((j : ℕ) → WordStays j) → Headed (t ∷ h) (rows_of a)
  unfolding slot_in
  stay slots words j = subst₂ Sized (sym (slots j)) (sym (words j)) (headed j)

  unchanged : change t ≡ Same → ((j : ℕ) → WordStays j) → Headed (t ∷ h) (rows_of a)
  unchanged e = stay (λ j. ap (λ (x : Change). slot_after j x (slot_in j h)) e)

  -- only slot k does
  only_one : (k : ℕ) (x : Change) → change t ≡ x → ((j : ℕ) → k ≢ j → slot_after j x (slot_in j h) ≡ slot_in j h) → Sized (slot_after k x (slot_in k h)) (word_at (rows_of a) k 1)
      → ((j : ℕ) → k ≢ j → WordStays j) → Headed (t ∷ h) (rows_of a)
  unfolding slot_in
  only_one k x e others here words j =
      subst (λ (y : Change). Sized (slot_after j y (slot_in j h)) (word_at (rows_of a) j 1)) (sym e) (by (dec_eq k j))
    where
      by : Dec (k ≡ j) → Sized (slot_after j x (slot_in j h)) (word_at (rows_of a) j 1)
      by (yes q) = subst (λ (i : ℕ). Sized (slot_after i x (slot_in i h)) (word_at (rows_of a) i 1)) q here
      by (no ne) = subst₂ Sized (sym (others j ne)) (sym (words j ne)) (headed j)

  elsewhere : (k j : ℕ) (new old : SlotKind) → k ≢ j → cond (eqb k j) new old ≡ old
  elsewhere k j new old ne = rw (ne_eqb k j ne)

  at_it : (k : ℕ) (new old : SlotKind) → cond (eqb k k) new old ≡ new
  at_it k new old = rw (eq-eqb k k refl)

  -- a head that is written anew
  module _ (k : ℕ) (words : List ℕ) (long : length words ≡ 17) (room : 17 * (k + 1) + 17 ≤ length heads) where
    fits : 17 * (k + 1) + length words ≤ length heads
    fits = omega (arith, long, room)

    new_here : word_of (with_head heads k words) k ≡ get_or words 1 0
    new_here = put_inside heads (17 * (k + 1)) words fits 1 (omega (arith, long))

    new_elsewhere : (j : ℕ) → k ≢ j → word_of (with_head heads k words) j ≡ word_of heads j
    new_elsewhere j ne =
        other_head k heads (with_head heads k words)
        (subst (λ (m : ℕ). Only (17 * (k + 1)) m heads (with_head heads k words)) long (put_only heads (17 * (k + 1)) words fits))
        (j + 1) 1 (λ e. ne (omega (arith, e))) (omega arith)

  -- a word of a head
  module _ (k word : ℕ) where
    set_here : 17 * (k + 1) + 17 ≤ length heads → word_of (with_head_word heads (k + 1) 1 word) k ≡ word
    set_here room = get_or-set_same heads (17 * (k + 1) + 1) word 0 (omega (arith, room))

    set_elsewhere : (j : ℕ) → k ≢ j → word_of (with_head_word heads (k + 1) 1 word) j ≡ word_of heads j
    set_elsewhere j ne = get_or-set_other heads (17 * (k + 1) + 1) (17 * (j + 1) + 1) word 0 (λ e. ne (omega (arith, e)))

  -- ---- each effect

  room_at : (k : ℕ) → k < w.state.settings.endpoints → 17 * (k + 1) + 17 ≤ length heads
  room_at k below = omega (arith, below, sound.heads_fit)

  abbrev heads_are : (rows : Rows) → rows_of a ≡ rows → (j : ℕ) → word_at (rows_of a) j 1 ≡ word_of rows.heads j
  heads_are rows e j = ap (λ (r : Rows). word_at r j 1) e

  headed_here : Effect w c a → Headed (t ∷ h) (rows_of a)
  headed_here (still x) = stay (λ j. switches_stay (change t) _ _ j (slot_in j h) x.switches) (same_rows _ x.rows_are (λ j. refl))
  headed_here (hears x) = unchanged x.same (same_rows _ x.rows_are (λ j. refl))
  headed_here (joins x) = unchanged x.same (same_rows _ x.rows_are (λ j. refl))
  headed_here (passes x) = unchanged x.same (same_rows _ x.rows_are (λ j. refl))
  headed_here (counts x) = unchanged x.same (same_rows _ x.rows_are (λ j. refl))
  headed_here (opens x) =
      let words = words_of (endpoint_head x.kind x.address x.endpoint x.packet) in
      let long = head_length x.kind x.address x.endpoint x.packet in
      let room = room_at x.k x.below in
      only_one x.k _ x.changes (λ j ne. elsewhere x.k j _ _ ne)
      (subst₂ Sized (sym (at_it x.k (Open x.kind x.packet) (slot_in x.k h))) (sym (heads_are _ x.rows_are x.k ∙ new_here x.k words long room))
      x.reads)
      (λ j ne. heads_are _ x.rows_are j ∙ new_elsewhere x.k words long room j ne)
  headed_here (closes x) =
      let room = head_within _ w sound x.k (Idle x.p) x.idle refl in
      only_one x.k _ x.changes (λ j ne. elsewhere x.k j _ _ ne)
      (subst (λ (y : SlotKind). Sized y (word_at (rows_of a) x.k 1)) (sym (at_it x.k Shut (slot_in x.k h))) tt)
      (λ j ne. heads_are _ x.rows_are j ∙ new_elsewhere x.k (replicate 17 0) refl room j ne)
  headed_here (rewrites x) =
      let room = head_within _ w sound x.k (Idle x.p) x.idle refl in
      only_one x.k Same x.same (λ j ne. refl)
      (subst (Sized (slot_in x.k h)) (sym (heads_are _ x.rows_are x.k ∙ set_here x.k x.word room)) (sized_alike (slot_in x.k h) _ _ x.reads (headed x.k)))
      (λ j ne. heads_are _ x.rows_are j ∙ set_elsewhere x.k x.word j ne)
  headed_here (resizes x) =
      let room = head_within _ w sound x.k (Idle x.p) x.idle refl in
      only_one x.k _ x.changes (λ j ne. elsewhere x.k j _ _ ne)
      (subst₂ Sized (sym (at_it x.k (resized (slot_in x.k h) x.size) (slot_in x.k h))) (sym (heads_are _ x.rows_are x.k ∙ set_here x.k x.word room))
      (resized_sized (slot_in x.k h) x.size x.word x.reads))
      (λ j ne. heads_are _ x.rows_are j ∙ set_elsewhere x.k x.word j ne)
  headed_here (clears x) = stay (λ j. ap (λ (y : Change). slot_after j y (slot_in j h)) x.changes) (same_rows _ x.rows_are (λ j. refl))
  headed_here (accepts x) =
      unchanged x.same
      (same_rows _ x.rows_are
      (λ j. submit_words heads w.rows.frames x.k _ _ _ (17 * (j + 1) + 1) (λ e. omega (arith, e)) (λ e. omega (arith, e)) (λ e. omega (arith, e)) (λ e. omega (arith, e))
      (λ e. omega (arith, e)) x.t.kind))
  headed_here (writes_back x) = unchanged x.same (same_rows _ x.rows_are (λ j. refl))
  headed_here (marks x) = unchanged x.same (same_rows _ x.rows_are (λ j. refl))
  headed_here (unlinks x) =
      unchanged x.same
      (same_rows _ x.rows_are (λ j. detach_word w.state heads w.rows.frames x.k j 1 (omega arith) (omega arith)))
  headed_here (collects x) =
      let room = head_within _ w sound x.k (Unlinking x.p x.r x.u) x.unlinking refl in
      unchanged x.same (same_rows _ x.rows_are (λ j. ended_others heads x.k room (17 * (j + 1) + 1) (λ m n. omega (arith, m, n))))

pub headed_keeps : (s : Settings) (h : History) (w : World) (c : Call) (a : Applied) → Sound s w → Headed h w.rows → Effect w c a
    → Headed (turn_of w.rows c a ∷ h) (left_by a).rows
headed_keeps s h w c a sound = headed_here w c a h (of_state s w sound)
