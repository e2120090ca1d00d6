-- The bits of words that are joined, met or cleared; words are the same where their bits are.
use Prim.Native.Nat.{ℕ, zero, suc, ◌+◌, ◌-◌, ◌*◌, ◌/◌, ◌%◌, ◌^◌, ◌≤◌, ◌<◌, min, max}
use mathlib.Core.Path.{◌≡◌, refl, sym, ap, ◌∙◌}
use mathlib.Core.Bool.{Bool, true, false, ◌&&◌}
use native.Mathlib.Nat.{pow-suc, zero-div, mod-eq_of_lt}
use native.Mathlib.Omega.{arith}
use borrow.Author.Tests.{eqb-true, eqb-false, eq-eqb, ne_eqb, lt-ltb, le-ltb, ltb-true, ltb-false}
use lib.Bits.{bit_and, bit_or, and_step, or_step, and_shr, or_shr, or_add_and, and_le_l, and_le_r}
use lib.Dec.{eqb, ltb}
use lib.Pow.{pow-lt, pow_pos, shr-shr}
use Rattle.bitset.specs.Words.{bit, one_if, ones_below, cleared_of}
use Rattle.bitset.proofs.Numbers.{half_below}

-- a bit further up is a bit of the half
pub bit_half : (w i : ℕ) → bit w (suc i) ≡ bit (w / 2) i
unfolding bit
bit_half w i = let s : suc i ≡ 1 + i = omega arith in rw (s, ← shr-shr w 1 i)

pub bit_low : (w : ℕ) → bit w 0 ≡ w % 2
unfolding bit
bit_low w = omega arith

pub bit_le : (w i : ℕ) → bit w i ≤ 1
unfolding bit
bit_le w i = omega arith

pub zero_bit : (i : ℕ) → bit 0 i ≡ 0
unfolding bit
zero_bit i = rw (zero-div (2 ^ i))

pub and_bit : (a b i : ℕ) → bit (bit_and a b) i ≡ min (bit a i) (bit b i)
unfolding bit
and_bit a b i = rw (and_shr a b i, and_step (a / 2 ^ i) (b / 2 ^ i)) (omega arith)

pub or_bit : (a b i : ℕ) → bit (bit_or a b) i ≡ max (bit a i) (bit b i)
unfolding bit
or_bit a b i = rw (or_shr a b i, or_step (a / 2 ^ i) (b / 2 ^ i)) (omega arith)

-- what is cleared and what is left make up the word
pub cleared_bit : (a b i : ℕ) → bit (cleared_of a b) i ≡ bit a i - bit b i
unfolding cleared_of
cleared_bit a b zero =
    rw (bit_low (a - bit_and a b), bit_low a, bit_low b) (omega (arith, and_step a b, and_le_l (a / 2) (b / 2)))
cleared_bit a b (suc i) =
    rw (bit_half (a - bit_and a b) i, bit_half a i, bit_half b i, half) (cleared_bit (a / 2) (b / 2) i)
  where
    half : (a - bit_and a b) / 2 ≡ a / 2 - bit_and (a / 2) (b / 2)
    half = omega (arith, and_step a b, and_le_l (a / 2) (b / 2))

-- two words of k bits are the same where every bit is
pub same_word : (k a b : ℕ) → a < 2 ^ k → b < 2 ^ k → ((i : ℕ) → i < k → bit a i ≡ bit b i) → a ≡ b
same_word zero a b ha hb h = omega arith
same_word (suc k) a b ha hb h =
    omega (
      arith,
      sym (bit_low a) ∙ h 0 (omega arith) ∙ bit_low b,
      same_word k (a / 2) (b / 2) (half_below k a ha) (half_below k b hb) below,
    )
  where
    below : (i : ℕ) → i < k → bit (a / 2) i ≡ bit (b / 2) i
    below i hi = sym (bit_half a i) ∙ h (suc i) (omega arith) ∙ bit_half b i

-- a word within another is what they have in common
pub subset_and : (k a b : ℕ) → a < 2 ^ k → b < 2 ^ k → ((i : ℕ) → i < k → bit b i ≤ bit a i) → bit_and a b ≡ b
subset_and k a b ha hb h = same_word k (bit_and a b) b (omega (arith, and_le_l a b)) hb each
  where
    each : (i : ℕ) → i < k → bit (bit_and a b) i ≡ bit b i
    each i hi = and_bit a b i ∙ omega (arith, h i hi)

-- clearing a word within another is subtracting it
pub subset_cleared : (k a b : ℕ) → a < 2 ^ k → b < 2 ^ k → ((i : ℕ) → i < k → bit b i ≤ bit a i) → cleared_of a b ≡ a - b
unfolding cleared_of
subset_cleared k a b ha hb h = rw (subset_and k a b ha hb h)

-- ---- nothing in a join

pub or_first : (a b : ℕ) → bit_or a b ≡ 0 → a ≡ 0
or_first a b e = omega (arith, or_add_and a b, and_le_r a b)

pub or_second : (a b : ℕ) → bit_or a b ≡ 0 → b ≡ 0
or_second a b e = omega (arith, or_add_and a b, and_le_l a b)

pub or_none : (a b : ℕ) → a ≡ 0 → b ≡ 0 → bit_or a b ≡ 0
or_none a b e f = omega (arith, or_add_and a b)

pub or_test : (a b : ℕ) → eqb (bit_or a b) 0 ≡ eqb a 0 && eqb b 0
or_test a b = go (eqb a 0) refl (eqb b 0) refl
  where
    go : (s : Bool) → eqb a 0 ≡ s → (t : Bool) → eqb b 0 ≡ t → eqb (bit_or a b) 0 ≡ s && t
    go true p true q = eq-eqb (bit_or a b) 0 (or_none a b (eqb-true a 0 p) (eqb-true b 0 q))
    go true p false q = ne_eqb (bit_or a b) 0 (λ e. eqb-false b 0 q (or_second a b e))
    go false p t q = ne_eqb (bit_or a b) 0 (λ e. eqb-false a 0 p (or_first a b e))

-- ---- the bits below one

pub shifted : (n : ℕ) → n < 64 → 1 * 2 ^ n % 2 ^ 64 ≡ 2 ^ n
shifted n h = let z : 1 * 2 ^ n ≡ 2 ^ n = omega arith in rw z (mod-eq_of_lt (pow-lt h))

ones_half : (m : ℕ) → (2 ^ suc m - 1) / 2 ≡ 2 ^ m - 1
ones_half m = omega (arith, pow-suc 2 m, pow_pos m)

ones_low : (m : ℕ) → (2 ^ suc m - 1) % 2 ≡ 1
ones_low m = omega (arith, pow-suc 2 m, pow_pos m)

ones_bit : (m i : ℕ) → bit (2 ^ m - 1) i ≡ one_if (ltb i m)
ones_bit zero i = rw (le-ltb i 0 (omega arith)) (zero_bit i)
ones_bit (suc m) zero = rw (bit_low (2 ^ suc m - 1), ones_low m, lt-ltb 0 (suc m) (omega arith))
ones_bit (suc m) (suc i) = rw (bit_half (2 ^ suc m - 1) i, ones_half m) (ones_bit m i ∙ ap one_if (shift (ltb i m) refl))
  where
    shift : (t : Bool) → ltb i m ≡ t → t ≡ ltb (suc i) (suc m)
    shift true e = sym (lt-ltb (suc i) (suc m) (omega (arith, ltb-true i m e)))
    shift false e = sym (le-ltb (suc i) (suc m) (omega (arith, ltb-false i m e)))

pub below_bit : (n i : ℕ) → i < 64 → bit (ones_below n) i ≡ one_if (ltb i n)
unfolding ones_below
below_bit n i h = ones_bit (min n 64) i ∙ ap one_if (same (ltb i n) refl)
  where
    same : (t : Bool) → ltb i n ≡ t → ltb i (min n 64) ≡ t
    same true e = lt-ltb i (min n 64) (omega (arith, ltb-true i n e))
    same false e = le-ltb i (min n 64) (omega (arith, ltb-false i n e))
