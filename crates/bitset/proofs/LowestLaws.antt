-- The n lowest places of a set: within it, the first n of its places; what is left are the others.
use Prim.Native.Nat.{ℕ, zero, suc, ◌+◌, ◌-◌, ◌*◌, ◌/◌, ◌%◌, ◌^◌, ◌≤◌, ◌<◌, min}
use mathlib.Core.Path.{◌≡◌, refl, sym, ap, ◌∙◌}
use mathlib.Core.Bool.{Bool, true, false}
use mathlib.Core.List.{List, [], ◌∷◌, ◌++◌}
use native.Mathlib.Omega.{arith}
use lib.Dec.{eqb}
use lib.ListN.{get_or, length, take, drop, length-take, length-drop}
use lib.Seq.{drop-nil}
use Rattle.bitset.specs.Words.{bit, pick, drop_bits, take_bits, places_of, cleared_of}
use Rattle.bitset.specs.Places.{Words, set_places, without_of, count_before, lowest_of}
use Rattle.bitset.proofs.Numbers.{less_none, less_more}
use Rattle.bitset.proofs.BitLaws.{bit_low, bit_half, zero_bit, subset_cleared}
use Rattle.bitset.proofs.PlaceLaws.{drop_le, places_drop, places_length}
use Rattle.bitset.proofs.PartLaws.{lowest_parts, four_taken}
use Rattle.bitset.proofs.SetLaws.{each_word_lem, without_bit}

-- ---- of one word

-- the bits taken and those left make up the word
split_bit : (k x n i : ℕ) → bit (take_bits k x n) i + bit (drop_bits k x n) i ≡ bit x i
unfolding drop_bits
split_bit zero x n i = let z : x - 0 ≡ x = omega arith in rw (z, zero_bit i) (omega arith)
split_bit (suc k) x n i = go (eqb n 0) i (drop_le k (x / 2) (n - x % 2)) (split_bit k (x / 2) (n - x % 2))
  where
    go : (b : Bool) (j : ℕ) → drop_bits k (x / 2) (n - x % 2) ≤ x / 2
        → ((m : ℕ) → bit (take_bits k (x / 2) (n - x % 2)) m + bit (drop_bits k (x / 2) (n - x % 2)) m ≡ bit (x / 2) m)
        → bit (x - pick b x (drop_bits k (x / 2) (n - x % 2) * 2)) j + bit (pick b x (drop_bits k (x / 2) (n - x % 2) * 2)) j ≡ bit x j
    go true j le rest = let z : x - x ≡ 0 = omega arith in rw (z, zero_bit j) (omega arith)
    go false zero le rest =
        rw (bit_low (x - drop_bits k (x / 2) (n - x % 2) * 2), bit_low (drop_bits k (x / 2) (n - x % 2) * 2), bit_low x) (omega arith)
    go false (suc j) le rest =
        let q : (x - drop_bits k (x / 2) (n - x % 2) * 2) / 2 ≡ x / 2 - drop_bits k (x / 2) (n - x % 2) = omega arith in
        let h : drop_bits k (x / 2) (n - x % 2) * 2 / 2 ≡ drop_bits k (x / 2) (n - x % 2) = omega arith in
        rw (bit_half (x - drop_bits k (x / 2) (n - x % 2) * 2) j, bit_half (drop_bits k (x / 2) (n - x % 2) * 2) j, bit_half x j, q, h) (rest j)

-- clearing what was taken leaves what is left
cleared_taken : (x n : ℕ) → x < 2 ^ 64 → cleared_of x (take_bits 64 x n) ≡ drop_bits 64 x n
cleared_taken x n f =
    subset_cleared 64 x (take_bits 64 x n) f (omega arith) (λ i hi. omega (arith, split_bit 64 x n i)) ∙ omega (arith, drop_le 64 x n)

take_fits : (x m : ℕ) → x < 2 ^ 64 → take_bits 64 x m < 2 ^ 64
take_fits x m h = omega arith

-- ---- of a set

module _ (w : List ℕ) (n : ℕ) where
  pub lowest_word : (j : ℕ) → j < 4 → get_or (lowest_of w n) j 0 ≡ take_bits 64 (get_or w j 0) (n - count_before w j)
  unfolding lowest_of
  lowest_word j h = each_word_lem (λ k. take_bits 64 (get_or w k 0) (n - count_before w k)) j h

  -- each place that is taken is one of the set
  pub lowest_bit : (j i : ℕ) → j < 4 → bit (get_or (lowest_of w n) j 0) i ≤ bit (get_or w j 0) i
  lowest_bit j i h = rw (lowest_word j h) (omega (arith, split_bit 64 (get_or w j 0) (n - count_before w j) i))

  -- the places taken and those left make up the set
  pub lowest_split : (j i : ℕ) → j < 4
      → bit (get_or (without_of w (lowest_of w n)) j 0) i + bit (get_or (lowest_of w n) j 0) i ≡ bit (get_or w j 0) i
  lowest_split j i h = rw (without_bit w (lowest_of w n) j i h) (omega (arith, lowest_bit j i h))

pub word_fits : (w : List ℕ) (j : ℕ) → Words w → j < 4 → get_or w j 0 < 2 ^ 64
word_fits w zero f h = f.first
word_fits w (suc zero) f h = f.second
word_fits w (suc (suc zero)) f h = f.third
word_fits w (suc (suc (suc zero))) f h = f.fourth
word_fits w (suc (suc (suc (suc j)))) f h = absurd (omega arith)

-- what is left is a difference, word by word
pub left_word : (w : List ℕ) (n j : ℕ) → Words w → j < 4
    → get_or (without_of w (lowest_of w n)) j 0 ≡ get_or w j 0 - get_or (lowest_of w n) j 0
unfolding without_of
left_word w n j f h =
    rw (each_word_lem (λ k. cleared_of (get_or w k 0) (get_or (lowest_of w n) k 0)) j h)
    (subset_cleared 64 (get_or w j 0) (get_or (lowest_of w n) j 0) (word_fits w j f h)
    (rw (lowest_word w n j h) (take_fits (get_or w j 0) (n - count_before w j) (word_fits w j f h))) (λ i hi. lowest_bit w n j i h))

module _ (w : List ℕ) (n : ℕ) (f : Words w) where
  pub lowest_set : set_places (lowest_of w n) ≡ take n (set_places w)
  unfolding set_places
  lowest_set =
      rw (← lowest_parts w n f _ _ _ _ refl refl refl refl)
      (four_taken (get_or w 0 0) (get_or w 1 0) (get_or w 2 0) (get_or w 3 0) n f.first f.second f.third f.fourth _ _ _ _ refl refl refl refl)

  pub lowest_count : length (set_places (lowest_of w n)) ≡ min n (length (set_places w))
  lowest_count = rw lowest_set (length-take n (set_places w))

drop_over : (m : ℕ) (l k : List ℕ) → drop m (l ++ k) ≡ drop m l ++ drop (m - length l) k
drop_over m [] k = let z : m - 0 ≡ m = omega arith in rw z (sym (ap (λ (r : List ℕ). r ++ drop m k) (drop-nil m)))
drop_over zero (x ∷ l) k = let z : 0 - suc (length l) ≡ 0 = omega arith in rw z
drop_over (suc m) (x ∷ l) k = let z : suc m - suc (length l) ≡ m - length l = omega arith in rw z (drop_over m l k)

module _ (w : List ℕ) (n : ℕ) (f : Words w) where
  -- the places of one word that are left
  word_left : (i j m : ℕ) → get_or w j 0 < 2 ^ 64 → places_of i 64 (cleared_of (get_or w j 0) (take_bits 64 (get_or w j 0) m)) ≡ drop m (places_of i 64 (get_or w j 0))
  word_left i j m h = rw (cleared_taken (get_or w j 0) m h) (places_drop i 64 (get_or w j 0) m h)

  -- a word has as many places wherever they begin
  word_length : (i j : ℕ) → get_or w j 0 < 2 ^ 64 → length (places_of i 64 (get_or w j 0)) ≡ length (places_of 0 64 (get_or w j 0))
  word_length i j h = places_length i 64 (get_or w j 0) h ∙ sym (places_length 0 64 (get_or w j 0) h)

  pub left_set : set_places (without_of w (lowest_of w n)) ≡ drop n (set_places w)
  unfolding set_places without_of lowest_of count_before
  left_set =
      rw (
        word_left 0 0 (n - count_before w 0) f.first,
        word_left 64 1 (n - count_before w 1) f.second,
        word_left 128 2 (n - count_before w 2) f.third,
        word_left 192 3 (n - count_before w 3) f.fourth,
      )
      (simp (drop_over, word_length 64 1 f.second, word_length 128 2 f.third, less_more, less_none))

  pub left_count : length (set_places (without_of w (lowest_of w n))) ≡ length (set_places w) - n
  left_count = rw left_set (length-drop n (set_places w))

-- ---- the words of what is taken and of what is left fit
