-- One slot's places are others: whose each place is then.
use Prim.Native.Nat.{ℕ, zero, suc, ◌+◌, ◌-◌, ◌*◌, ◌/◌, ◌%◌, ◌≤◌, ◌<◌}
use mathlib.Core.Path.{◌≡◌, refl, sym, ap, ◌∙◌}
use mathlib.Core.Logic.{◌≢◌}
use mathlib.Core.Bool.{Bool, true, false, cond}
use mathlib.Core.List.{List, ◌++◌}
use native.Mathlib.Numerals.{add-one}
use native.Mathlib.Omega.{arith}
use borrow.Author.Tests.{eqb-true, eqb-false, ne_eqb, lt-ltb}
use lib.Dec.{eqb}
use lib.ListN.{get_or, length, take, drop}
use Rattle.bitset.specs.Words.{bit}
use Rattle.bitset.specs.Places.{Words, among, has_place, lowest_of}
use Rattle.bitset.proofs.BitLaws.{bit_le, zero_bit}
use Rattle.bitset.proofs.HasLaws.{has_among}
use Rattle.bitset.proofs.LowestLaws.{lowest_bit, lowest_set}
use Rattle.pool.specs.Places.{clear_of, mark_of}
use Rattle.settings.specs.declared.settings.Settings.{Settings}
use Rattle.slot.specs.declared.slot.Slot.{Slot}
use Rattle.words.specs.declared.cores.Rest.{Rest}
use Rattle.words.specs.Good.{Tidy, no_places}
use Rattle.words.specs.Record.{last_at, part_at, places_at, put_places, put_slot, word_at}
use Rattle.words.specs.View.{each_from, holds_bit, owner_from}
use Rattle.words.proofs.EachLaws.{each_append, each_drop, each_within}
use Rattle.words.proofs.PickLaws.{clear_each, mark_each, marked_at, picked, place_bit}
use Rattle.words.proofs.SumLaws.{holds_le, owner_alike, owner_none, owner_one}
use Rattle.words.proofs.OwnerLaws.{free_held, held_owner, holds_alone, outside_free, outside_owner, owner_held, owners_of}
use Rattle.words.proofs.PlacesLaws.{free_picked, own_part, slot_place}
use Rattle.words.proofs.RowLaws.{places_last, places_length, places_part, places_part_else, places_word, put_last_else, put_length, put_part_lem, put_word_else}

-- slot k has the places x, and every other slot stays
pub record Moved (ws ws' : List ℕ) (k : ℕ) (x : List ℕ) : Type 0 where
  pub length_same : length ws' ≡ length ws
  pub word_else : (l : ℕ) → l ≢ k → word_at ws' l ≡ word_at ws l
  pub last_else : (l : ℕ) → l ≢ k → last_at ws' l ≡ last_at ws l
  pub part_else : (l j : ℕ) → l ≢ k → j < 4 → part_at ws' l j ≡ part_at ws l j
  pub part_here : (j : ℕ) → j < 4 → part_at ws' k j ≡ get_or x j 0

module _ (ws : List ℕ) (k : ℕ) (x : List ℕ) (room : 6 * k + 6 ≤ length ws) where
  pub moved_places : Moved ws (put_places ws k x) k x
  moved_places =
      record {
        length_same = places_length ws k x;
        word_else = λ l n. places_word ws k x l;
        last_else = λ l n. places_last ws k x l;
        part_else = places_part_else ws k x;
        part_here = places_part ws k x room;
      }

  -- with its first words
  pub moved_slot : (e : Slot) → Moved ws (put_places (put_slot ws k e) k x) k x
  moved_slot e =
      record {
        length_same = places_length (put_slot ws k e) k x ∙ put_length ws k e;
        word_else = λ l n. places_word (put_slot ws k e) k x l ∙ put_word_else ws k e l n;
        last_else = λ l n. places_last (put_slot ws k e) k x l ∙ put_last_else ws k e l n;
        part_else = λ l j n h. places_part_else (put_slot ws k e) k x l j n h ∙ put_part_lem ws k e l j h;
        part_here = places_part (put_slot ws k e) k x (omega (arith, put_length ws k e));
      }

-- ---- one place

pub has_bit : (w : List ℕ) (i : ℕ) → i < 256 → has_place w i ≡ eqb (place_bit w i) 1
unfolding has_place
has_bit w i h = rw (lt-ltb i 256 h)

pub none_bit : (i : ℕ) → place_bit no_places i ≡ 0
none_bit i = ap (λ (w : ℕ). bit w (i % 64)) (none (i / 64)) ∙ zero_bit (i % 64)
  where
    none : (j : ℕ) → get_or no_places j 0 ≡ 0
    none zero = refl
    none (suc zero) = refl
    none (suc (suc zero)) = refl
    none (suc (suc (suc zero))) = refl
    none (suc (suc (suc (suc j)))) = refl

module _ (ws ws' : List ℕ) (k : ℕ) (x : List ℕ) (m : Moved ws ws' k x) (i : ℕ) (below : i < 256) where
  pub moved_here : holds_bit ws' k i ≡ place_bit x i
  unfolding holds_bit bit
  moved_here = rw (m.part_here (i / 64) (omega arith))

  pub moved_else : (l : ℕ) → l ≢ k → holds_bit ws' l i ≡ holds_bit ws l i
  unfolding holds_bit
  moved_else l n = rw (m.part_else l (i / 64) n (omega arith))

-- a slot that had none gets some of the free places
module _ (s : Settings) (r : Rest) (ws : List ℕ) (t : Tidy s r ws) (slots : s.endpoints ≤ 32) (k : ℕ) (below : k < s.endpoints)
    (empty : places_at ws k ≡ no_places) (n : ℕ) (ws' : List ℕ) (m : Moved ws ws' k (lowest_of r.free n)) (i : ℕ) (h : i < 256) where
  abbrev x : List ℕ
  x = lowest_of r.free n

  empty_bit : holds_bit ws k i ≡ 0
  empty_bit = sym (slot_place ws k i h) ∙ ap (λ (w : List ℕ). place_bit w i) empty ∙ none_bit i

  pub taken_at : owner_from 0 32 ws' i ≡ cond (eqb (place_bit x i) 1) (k + 1) (owner_from 0 32 ws i)
  taken_at = go (eqb (place_bit x i) 1) refl
    where
      go : (b : Bool) → eqb (place_bit x i) 1 ≡ b → owner_from 0 32 ws' i ≡ cond b (k + 1) (owner_from 0 32 ws i)
      go true e =
          let one : place_bit x i ≡ 1 = eqb-true (place_bit x i) 1 e in
          let free : place_bit r.free i ≡ 1 = omega (arith, one, lowest_bit r.free n (i / 64) (i % 64) (omega arith), bit_le (get_or r.free (i / 64) 0) (i % 64)) in
          rw (add-one k)
          (owner_one ws' i k 0 32 (omega arith) (omega arith) (moved_here ws ws' k x m i h ∙ one)
          (λ l ne. moved_else ws ws' k x m i h l ne ∙ free_held s r ws t i h free l))
      go false e = owner_alike ws ws' i 0 32 (λ l a b. same l (eqb l k) refl)
        where
          same : (l : ℕ) → (b : Bool) → eqb l k ≡ b → holds_bit ws' l i ≡ holds_bit ws l i
          same l true q =
              rw (eqb-true l k q)
              (moved_here ws ws' k x m i h
              ∙ omega (arith, eqb-false (place_bit x i) 1 e, bit_le (get_or x (i / 64) 0) (i % 64), empty_bit))
          same l false q = moved_else ws ws' k x m i h l (eqb-false l k q)

-- a slot's places are freed
module _ (s : Settings) (r : Rest) (ws : List ℕ) (t : Tidy s r ws) (slots : s.endpoints ≤ 32) (k : ℕ)
    (ws' : List ℕ) (m : Moved ws ws' k no_places) (i : ℕ) (h : i < 256) where
  freed_at : owner_from 0 32 ws' i ≡ cond (eqb (owner_from 0 32 ws i) (k + 1)) 0 (owner_from 0 32 ws i)
  freed_at = rw (add-one k) (go (eqb (owner_from 0 32 ws i) (suc k)) refl)
    where
      go : (b : Bool) → eqb (owner_from 0 32 ws i) (suc k) ≡ b → owner_from 0 32 ws' i ≡ cond b 0 (owner_from 0 32 ws i)
      go true e = owner_none ws' i 0 32 (λ l a b. none l (eqb l k) refl)
        where
          mine : holds_bit ws k i ≡ 1
          mine = (owner_held s r ws t i h slots k (eqb-true (owner_from 0 32 ws i) (suc k) e)).1

          none : (l : ℕ) → (b : Bool) → eqb l k ≡ b → holds_bit ws' l i ≡ 0
          none l true q = rw (eqb-true l k q) (moved_here ws ws' k no_places m i h ∙ none_bit i)
          none l false q = moved_else ws ws' k no_places m i h l (eqb-false l k q) ∙ holds_alone s r ws t i h k mine l (eqb-false l k q)
      go false e = owner_alike ws ws' i 0 32 (λ l a b. same l (eqb l k) refl)
        where
          other : holds_bit ws k i ≢ 1
          other q = eqb-false (owner_from 0 32 ws i) (suc k) e (held_owner s r ws t i h slots k q)

          same : (l : ℕ) → (b : Bool) → eqb l k ≡ b → holds_bit ws' l i ≡ holds_bit ws l i
          same l true q = rw (eqb-true l k q) (moved_here ws ws' k no_places m i h ∙ none_bit i ∙ omega (arith, other, holds_le ws i k))
          same l false q = moved_else ws ws' k no_places m i h l (eqb-false l k q)

-- ---- the row of owners

-- the first so many are others, and the rest stay
module _ (f g p : ℕ → ℕ) (d : ℕ) (few : d ≤ 256) where
  two_parts : ((i : ℕ) → i < d → g i ≡ p i) → ((i : ℕ) → d ≤ i → i < 256 → g i ≡ f i) → each_from g 0 256 ≡ each_from p 0 d ++ drop d (each_from f 0 256)
  two_parts a b =
      let z : d + (256 - d) ≡ 256 = omega arith in
      sym (each_append g 0 d (256 - d) ∙ ap (each_from g 0) z)
      ∙ ap (λ (l : List ℕ). l ++ each_from g (0 + d) (256 - d)) (each_within g p 0 d (λ i l h. a i (omega (arith, h))))
      ∙ ap (λ (l : List ℕ). each_from p 0 d ++ l)
      (each_within g f (0 + d) (256 - d) (λ i l h. b i (omega (arith, l)) (omega (arith, h))) ∙ sym (each_drop f 0 256 d few))

module _ (s : Settings) (r : Rest) (ws : List ℕ) (t : Tidy s r ws) (few : s.descriptors ≤ 256) (slots : s.endpoints ≤ 32) (k : ℕ) where
  pub taken_owner : k < s.endpoints → places_at ws k ≡ no_places → Words r.free → (n : ℕ) (ws' : List ℕ) → Moved ws ws' k (lowest_of r.free n)
      → owners_of ws' ≡ mark_of (take s.descriptors (owners_of ws)) n (k + 1) ++ drop s.descriptors (owners_of ws)
  taken_owner below empty fit n ws' m =
      rw (own_part s ws few, mark_each (owner_from 0 32 ws) 0 s.descriptors n (k + 1))
      (two_parts (owner_from 0 32 ws) (owner_from 0 32 ws') (marked_at (owner_from 0 32 ws) 0 s.descriptors n (k + 1)) s.descriptors few
      (λ i h. at i (omega (arith, h)) ∙ ap (λ (b : Bool). cond b (k + 1) (owner_from 0 32 ws i)) (sym (marked i (omega (arith, h)))))
      (λ i a h. at i h ∙ rw (ne_eqb (place_bit x i) 1 (λ q. omega (arith, q, lowest_bit r.free n (i / 64) (i % 64) (omega (arith, h)), outside_free s r ws t i h a)))))
    where
      x : List ℕ
      x = lowest_of r.free n

      at : (i : ℕ) → i < 256 → owner_from 0 32 ws' i ≡ cond (eqb (place_bit x i) 1) (k + 1) (owner_from 0 32 ws i)
      at = taken_at s r ws t slots k below empty n ws' m

      marked : (i : ℕ) → i < 256 → among i (take n (picked (λ j. eqb (owner_from 0 32 ws j) 0) 0 s.descriptors)) ≡ eqb (place_bit x i) 1
      marked i h =
          rw (free_picked s r ws t few slots, ← lowest_set r.free n fit)
          (sym (has_among x i) ∙ has_bit x i h)

  pub freed_owner : (ws' : List ℕ) → Moved ws ws' k no_places
      → owners_of ws' ≡ clear_of (k + 1) (take s.descriptors (owners_of ws)) ++ drop s.descriptors (owners_of ws)
  freed_owner ws' m =
      rw (own_part s ws few, clear_each (owner_from 0 32 ws) 0 s.descriptors (k + 1))
      (two_parts (owner_from 0 32 ws) (owner_from 0 32 ws') (λ j. cond (eqb (owner_from 0 32 ws j) (k + 1)) 0 (owner_from 0 32 ws j)) s.descriptors few
      (λ i h. freed_at s r ws t slots k ws' m i (omega (arith, h)))
      (λ i a h. freed_at s r ws t slots k ws' m i h ∙ rw (outside_owner s r ws t i h slots a, ne_eqb 0 (k + 1) (λ q. omega (arith, q)))))
