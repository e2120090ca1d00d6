-- A set of at most 256 places as four words: bit i of word j is place 64 j + i.
use Rattle.std.specs.Prelude.{ℕ, zero, suc, ◌+◌, ◌-◌, ◌*◌, ◌/◌, ◌%◌, ◌^◌, ◌<◌, Bool, false, ◌&&◌, ◌||◌, cond, List, [], ◌∷◌, ◌++◌, eqb, ltb, get_or, length, replicate, set}
use Rattle.std.specs.Int.Bits.{bit_or}
use Rattle.bitset.specs.Words.{bit, places_of, take_bits, ones_below, cleared_of, Each}

-- the places of four words, ascending
unfoldable pub set_places : List ℕ → List ℕ
set_places w =
    places_of 0 64 (get_or w 0 0) ++ (places_of 64 64 (get_or w 1 0) ++ (places_of 128 64 (get_or w 2 0) ++ places_of 192 64 (get_or w 3 0)))

-- the four words have 64 bits each
pub record Words (w : List ℕ) : Type 0 where
  pub first : get_or w 0 0 < 2 ^ 64
  pub second : get_or w 1 0 < 2 ^ 64
  pub third : get_or w 2 0 < 2 ^ 64
  pub fourth : get_or w 3 0 < 2 ^ 64

-- one answer a word
abbrev pub each_word : (ℕ → ℕ) → List ℕ
each_word f = f 0 ∷ f 1 ∷ f 2 ∷ f 3 ∷ []

-- the places below n
unfoldable pub all_below : ℕ → List ℕ
all_below n = each_word (λ j. ones_below (n - 64 * j))

-- one place; none from 256 on
unfoldable pub one_place : ℕ → List ℕ
one_place p = cond (ltb p 256) (set (replicate 4 0) (p / 64) (2 ^ (p % 64))) (replicate 4 0)

-- the places of w that x does not have, and those of either
unfoldable pub without_of : List ℕ → List ℕ → List ℕ
without_of w x = each_word (λ j. cleared_of (get_or w j 0) (get_or x j 0))

unfoldable pub with_of : List ℕ → List ℕ → List ℕ
with_of w x = each_word (λ j. bit_or (get_or w j 0) (get_or x j 0))

unfoldable pub none_in : List ℕ → Bool
none_in w = eqb (get_or w 0 0) 0 && eqb (get_or w 1 0) 0 && eqb (get_or w 2 0) 0 && eqb (get_or w 3 0) 0

-- whether a set has a place; none has 256 or more
unfoldable pub has_place : List ℕ → ℕ → Bool
has_place w p = ltb p 256 && eqb (bit (get_or w (p / 64) 0) (p % 64)) 1

-- how many places the words before word j have
unfoldable pub count_before : List ℕ → ℕ → ℕ
count_before w zero = 0
count_before w (suc j) = count_before w j + length (places_of 0 64 (get_or w j 0))

-- the words of the n lowest places
unfoldable pub lowest_of : List ℕ → ℕ → List ℕ
lowest_of w n = each_word (λ j. take_bits 64 (get_or w j 0) (n - count_before w j))

-- n places from place i on
unfoldable pub up_from : ℕ → ℕ → List ℕ
up_from i zero = []
up_from i (suc n) = i ∷ up_from (suc i) n

-- whether a list has a place
unfoldable pub among : ℕ → List ℕ → Bool
among p [] = false
among p (q ∷ qs) = eqb q p || among p qs

-- every place is below n
abbrev pub Within : ℕ → List ℕ → Type 0
Within n ps = Each (λ p. p < n) ps

-- every place is below all that follow it
abbrev pub Ascending : List ℕ → Type 0
Ascending [] = Unit
Ascending (p ∷ ps) = Each (λ q. p < q) ps × Ascending ps
