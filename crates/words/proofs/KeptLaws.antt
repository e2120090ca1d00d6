-- A row stays tidy where a slot takes free places, and where it frees its own.
use Prim.Native.Nat.{ℕ, zero, suc, ◌+◌, ◌*◌, ◌≤◌, ◌<◌}
use mathlib.Core.Path.{◌≡◌, refl, sym, ap, ◌∙◌}
use mathlib.Core.Bool.{Bool, true, false}
use mathlib.Core.List.{List}
use native.Mathlib.Omega.{arith}
use borrow.Author.Tests.{eqb-true, eqb-false}
use lib.Dec.{eqb}
use lib.ListN.{get_or, length}
use Rattle.bitset.specs.Words.{bit}
use Rattle.bitset.specs.Places.{all_below, lowest_of, with_of, without_of}
use Rattle.bitset.proofs.BitLaws.{bit_le, zero_bit}
use Rattle.bitset.proofs.LowestLaws.{lowest_split}
use Rattle.bitset.proofs.SetLaws.{with_bit}
use Rattle.settings.specs.declared.settings.Settings.{Settings}
use Rattle.slot.specs.declared.slot.Slot.{Slot}
use Rattle.words.specs.declared.cores.Rest.{Rest}
use Rattle.words.specs.Good.{Held, Tidy, no_places}
use Rattle.words.specs.Record.{SlotFits, last_at, last_of, part_at, phase_in, places_at, put_places, put_slot, word_at, word_of}
use Rattle.words.proofs.SumLaws.{slot_sum, sum_changed, sum_has}
use Rattle.words.proofs.MovedLaws.{Moved, moved_slot}
use Rattle.words.proofs.RecordCases.{last_before}
use Rattle.words.proofs.RecordLaws.{phase_back}
use Rattle.words.proofs.RowLaws.{places_last, places_word, put_last, put_word}

-- word j of a slot's places
part_of : (ws : List ℕ) (k j : ℕ) → j < 4 → get_or (places_at ws k) j 0 ≡ part_at ws k j
part_of ws k zero h = refl
part_of ws k (suc zero) h = refl
part_of ws k (suc (suc zero)) h = refl
part_of ws k (suc (suc (suc zero))) h = refl
part_of ws k (suc (suc (suc (suc j)))) h = absurd (omega arith)

none_of : (j : ℕ) → j < 4 → get_or no_places j 0 ≡ 0
none_of zero h = refl
none_of (suc zero) h = refl
none_of (suc (suc zero)) h = refl
none_of (suc (suc (suc zero))) h = refl
none_of (suc (suc (suc (suc j)))) h = absurd (omega arith)

-- ---- what a slot keeps

-- where its phase, its last id and its places are the same
held_alike : (ws ws' : List ℕ) (k : ℕ) → phase_in (word_at ws' k) ≡ phase_in (word_at ws k) → last_at ws' k ≡ last_at ws k
    → ((j : ℕ) → j < 4 → part_at ws' k j ≡ part_at ws k j) → Held ws k → Held ws' k
held_alike ws ws' k p l w h =
    record {
      closed = λ e. l ∙ h.closed (sym p ∙ e);
      idle = λ e q. h.idle (sym p ∙ e) (sym l ∙ q);
      empty = λ e. rw (w 0 (omega arith), w 1 (omega arith), w 2 (omega arith), w 3 (omega arith)) (h.empty (omega (arith, e, p)));
    }

-- where its first words are those of a slot
held_written : (ws : List ℕ) (k : ℕ) (e : Slot) → word_at ws k ≡ word_of e → last_at ws k ≡ last_of e → SlotFits e
    → (e.phase < 2 → places_at ws k ≡ no_places) → (e.phase ≡ 0 → e.id ≡ 1) → Held ws k
held_written ws k e w l fits none first =
    record {
      closed = λ q. l ∙ sym (last_before e (omega (arith, phase, q))) ∙ omega (arith, first (sym phase ∙ q));
      idle = λ q z. omega (arith, sym l ∙ z, last_before e (omega (arith, phase, q)), fits.id_fits, fits.id_least);
      empty = λ q. none (omega (arith, phase, q));
    }
  where
    phase : phase_in (word_at ws k) ≡ e.phase
    phase = ap (λ v. phase_in v) w ∙ phase_back e fits

-- ---- one slot's places are others

-- the free words and slot k change so that each place is as often in them as it was
module _ (s : Settings) (r r' : Rest) (ws ws' : List ℕ) (t : Tidy s r ws) (k : ℕ) (below : k < s.endpoints) (x : List ℕ) (m : Moved ws ws' k x) where
  pub tidy_moved : Held ws' k
      → ((j i : ℕ) → j < 4 → i < 64 → bit (get_or r'.free j 0) i + bit (get_or x j 0) i ≡ bit (get_or r.free j 0) i + bit (part_at ws k j) i)
      → Tidy s r' ws'
  tidy_moved h bits =
      record {
        has_row_length = m.length_same ∙ t.has_row_length;
        held = λ l b. go l b (eqb l k) refl;
        shared_out = λ j i a b. sym (total j i a b) ∙ t.shared_out j i a b;
      }
    where
      go : (l : ℕ) → l < s.endpoints → (b : Bool) → eqb l k ≡ b → Held ws' l
      go l b true q = rw (eqb-true l k q) h
      go l b false q =
          held_alike ws ws' l (ap (λ w. phase_in w) (m.word_else l (eqb-false l k q))) (m.last_else l (eqb-false l k q))
          (λ j a. m.part_else l j (eqb-false l k q) a) (t.held l b)

      total : (j i : ℕ) → j < 4 → i < 64
          → bit (get_or r.free j 0) i + slot_sum ws j i 0 s.endpoints ≡ bit (get_or r'.free j 0) i + slot_sum ws' j i 0 s.endpoints
      total j i a b =
          omega (
            arith,
            bits j i a b,
            ap (λ (w : ℕ). bit w i) (m.part_here j a),
            sum_changed ws ws' j i k 0 s.endpoints (omega arith) (omega arith) (λ l n. ap (λ (w : ℕ). bit w i) (m.part_else l j n a)),
          )

module _ (s : Settings) (r : Rest) (ws : List ℕ) (t : Tidy s r ws) (k : ℕ) (e : Slot) (below : k < s.endpoints) (fits : SlotFits e) where
  room : 6 * k + 6 ≤ length ws
  room = omega (arith, t.has_row_length)

  module _ (x : List ℕ) where
    word_here : word_at (put_places (put_slot ws k e) k x) k ≡ word_of e
    word_here = places_word (put_slot ws k e) k x k ∙ put_word ws k e room

    last_here : last_at (put_places (put_slot ws k e) k x) k ≡ last_of e
    last_here = places_last (put_slot ws k e) k x k ∙ put_last ws k e room

  -- the lowest n free places are taken for a request
  pub tidy_taken : (r' : Rest) (n : ℕ) → places_at ws k ≡ no_places → 2 ≤ e.phase → r'.free ≡ without_of r.free (lowest_of r.free n)
      → Tidy s r' (put_places (put_slot ws k e) k (lowest_of r.free n))
  tidy_taken r' n empty busy left =
      tidy_moved s r r' ws (put_places (put_slot ws k e) k x) t k below x (moved_slot ws k x room e)
      (held_written (put_places (put_slot ws k e) k x) k e (word_here x) (last_here x) fits (λ q. absurd (omega (arith, q, busy))) (λ q. absurd (omega (arith, q, busy))))
      (λ j i a b.
      rw left
      (omega (arith, lowest_split r.free n j i a, zero_bit i, ap (λ (w : ℕ). bit w i) (sym (part_of ws k j a) ∙ ap (λ (w : List ℕ). get_or w j 0) empty ∙ none_of j a))))
    where
      x : List ℕ
      x = lowest_of r.free n

  -- the slot's places are freed
  pub tidy_freed : (r' : Rest) → e.phase < 2 → (e.phase ≡ 0 → e.id ≡ 1) → r'.free ≡ with_of r.free (places_at ws k)
      → Tidy s r' (put_places (put_slot ws k e) k no_places)
  tidy_freed r' ended first more =
      tidy_moved s r r' ws ws' t k below no_places m
      (held_written ws' k e (word_here no_places) (last_here no_places) fits (λ q. none) first)
      (λ j i a b. rw more (bits j i a b))
    where
      ws' : List ℕ
      ws' = put_places (put_slot ws k e) k no_places

      m : Moved ws ws' k no_places
      m = moved_slot ws k no_places room e

      none : places_at ws' k ≡ no_places
      none = rw (m.part_here 0 (omega arith), m.part_here 1 (omega arith), m.part_here 2 (omega arith), m.part_here 3 (omega arith))

      bits : (j i : ℕ) → j < 4 → i < 64
          → bit (get_or (with_of r.free (places_at ws k)) j 0) i + bit (get_or no_places j 0) i ≡ bit (get_or r.free j 0) i + bit (part_at ws k j) i
      bits j i a b =
          omega (
            arith,
            with_bit r.free (places_at ws k) j i a,
            ap (λ (w : ℕ). bit w i) (part_of ws k j a),
            ap (λ (w : ℕ). bit w i) (none_of j a),
            zero_bit i,
            t.shared_out j i a b,
            bit_le (get_or (all_below s.descriptors) j 0) i,
            sum_has ws j i 0 s.endpoints k (omega arith) (omega arith),
          )
