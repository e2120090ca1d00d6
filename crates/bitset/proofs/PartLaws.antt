-- The words of the n lowest places are those of the first n places, one part a word.
use Prim.Native.Nat.{ℕ, zero, suc, ◌+◌, ◌-◌, ◌^◌, ◌≤◌, ◌<◌}
use mathlib.Core.Path.{◌≡◌, sym, ap, ◌∙◌}
use mathlib.Core.List.{List, [], ◌∷◌, ◌++◌}
use native.Mathlib.Omega.{arith}
use lib.Bits.{bit_and}
use lib.Count.{ones}
use lib.ListN.{get_or, length, take, length-append}
use lib.Seq.{take-nil}
use Rattle.bitset.specs.declared.word.Part.{Part}
use Rattle.bitset.specs.Words.{places_of, drop_bits, part_of}
use Rattle.bitset.specs.Places.{Words, lowest_of, count_before}
use Rattle.bitset.proofs.Numbers.{less_none, less_more}
use Rattle.bitset.proofs.PlaceLaws.{places_length, drop_more, drop_all, places_take}

-- ---- the turns of the loop that clears the lowest bits

module _ (x n done rest : ℕ) (fits : x < 2 ^ 64) (few : n ≤ ones x) (left : done < n) (e : rest ≡ drop_bits 64 x done) where
  pub drop_turn : (r : ℕ) → r ≡ bit_and rest (rest - 1) → r ≡ drop_bits 64 x (done + 1)
  drop_turn r er = er ∙ rw e (drop_more 64 x done fits (omega arith))

-- ---- a part, and four of them

module _ (x n : ℕ) (fits : x < 2 ^ 64) (have : ℕ) (eh : have ≡ ones x) where
  pub part_all : have ≤ n → ◌≡◌ {A = Part} (record { taken = x; left = n - have }) (part_of x n)
  unfolding part_of
  part_all h =
      let z : x - 0 ≡ x = omega arith in
      rw (drop_all 64 x n fits (omega arith), z, eh)

  pub part_some : (rest : ℕ) → n < have → rest ≡ drop_bits 64 x n → ◌≡◌ {A = Part} (record { taken = x - rest; left = 0 }) (part_of x n)
  unfolding part_of
  part_some rest h e = let z : n - ones x ≡ 0 = omega arith in rw (z, e)

-- the parts that are taken, each with what the one before it left to take, are the words of the lowest places
module _ (w : List ℕ) (n : ℕ) (f : Words w) where
  pub lowest_parts : (a b c d : Part) → a ≡ part_of (get_or w 0 0) n → b ≡ part_of (get_or w 1 0) a.left → c ≡ part_of (get_or w 2 0) b.left
      → d ≡ part_of (get_or w 3 0) c.left → a.taken ∷ b.taken ∷ c.taken ∷ d.taken ∷ [] ≡ lowest_of w n
  unfolding part_of lowest_of count_before
  lowest_parts a b c d ea eb ec ed =
      simp (
        places_length 0 64 (get_or w 0 0) f.first,
        places_length 0 64 (get_or w 1 0) f.second,
        places_length 0 64 (get_or w 2 0) f.third,
        less_none,
        less_more,
        ed,
        ec,
        eb,
        ea,
      )

take_over : (n : ℕ) (l m : List ℕ) → take n (l ++ m) ≡ take n l ++ take (n - length l) m
take_over n [] m = let z : n - 0 ≡ n = omega arith in rw z (sym (ap (λ (k : List ℕ). k ++ take n m) (take-nil n)))
take_over zero (x ∷ l) m = let z : 0 - suc (length l) ≡ 0 = omega arith in rw z
take_over (suc n) (x ∷ l) m = let z : suc n - suc (length l) ≡ n - length l = omega arith in rw z (ap (λ (k : List ℕ). x ∷ k) (take_over n l m))

part_places : (i x n : ℕ) (p : Part) → x < 2 ^ 64 → p ≡ part_of x n → places_of i 64 p.taken ≡ take n (places_of i 64 x)
unfolding part_of
part_places i x n p fits e = rw e (places_take i 64 x n fits)

part_left : (i x n : ℕ) (p : Part) → x < 2 ^ 64 → p ≡ part_of x n → p.left ≡ n - length (places_of i 64 x)
unfolding part_of
part_left i x n p fits e = rw (e, places_length i 64 x fits)

module _ (w x y z n : ℕ) (fw : w < 2 ^ 64) (fx : x < 2 ^ 64) (fy : y < 2 ^ 64) (fz : z < 2 ^ 64) where
  pub four_taken : (a b c d : Part) → a ≡ part_of w n → b ≡ part_of x a.left → c ≡ part_of y b.left → d ≡ part_of z c.left
      → places_of 0 64 a.taken ++ (places_of 64 64 b.taken ++ (places_of 128 64 c.taken ++ places_of 192 64 d.taken))
      ≡ take n (places_of 0 64 w ++ (places_of 64 64 x ++ (places_of 128 64 y ++ places_of 192 64 z)))
  four_taken a b c d ea eb ec ed =
      rw (
        take_over n (places_of 0 64 w) (places_of 64 64 x ++ (places_of 128 64 y ++ places_of 192 64 z)),
        ← part_left 0 w n a fw ea,
        ← part_places 0 w n a fw ea,
        take_over a.left (places_of 64 64 x) (places_of 128 64 y ++ places_of 192 64 z),
        ← part_left 64 x a.left b fx eb,
        ← part_places 64 x a.left b fx eb,
        take_over b.left (places_of 128 64 y) (places_of 192 64 z),
        ← part_left 128 y b.left c fy ec,
        ← part_places 128 y b.left c fy ec,
        ← part_places 192 z c.left d fz ed,
      )

  pub four_length : (a b c d : ℕ) → a ≡ ones w → b ≡ ones x → c ≡ ones y → d ≡ ones z
      → a + b + c + d ≡ length (places_of 0 64 w ++ (places_of 64 64 x ++ (places_of 128 64 y ++ places_of 192 64 z)))
  four_length a b c d ea eb ec ed =
      simp (length-append, places_length 0 64 w fw, places_length 64 64 x fx, places_length 128 64 y fy, places_length 192 64 z fz) (omega arith)
