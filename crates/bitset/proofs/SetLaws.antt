-- The bits of sets: all below a place, one without another, both together.
use Prim.Native.Nat.{ℕ, zero, suc, ◌+◌, ◌-◌, ◌*◌, ◌^◌, ◌<◌, min, max}
use mathlib.Core.Path.{◌≡◌, refl, ap, ◌∙◌}
use mathlib.Core.Bool.{Bool, true, false}
use mathlib.Core.List.{List}
use native.Mathlib.Omega.{arith}
use borrow.Author.Tests.{lt-ltb, le-ltb, ltb-true, ltb-false}
use lib.Bits.{bit_or}
use lib.Dec.{ltb}
use lib.ListN.{get_or}
use lib.Pow.{pow_mono, pow_pos}
use Rattle.bitset.specs.Words.{bit, one_if, ones_below, cleared_of}
use Rattle.bitset.specs.Places.{Words, each_word, all_below, without_of, with_of}
use Rattle.bitset.proofs.Numbers.{few}
use Rattle.bitset.proofs.BitLaws.{or_bit, cleared_bit, below_bit}

pub each_word_lem : (f : ℕ → ℕ) (j : ℕ) → j < 4 → get_or (each_word f) j 0 ≡ f j
each_word_lem f zero h = refl
each_word_lem f (suc zero) h = refl
each_word_lem f (suc (suc zero)) h = refl
each_word_lem f (suc (suc (suc zero))) h = refl
each_word_lem f (suc (suc (suc (suc j)))) h = absurd (omega arith)

-- ---- by bits

module _ (w x : List ℕ) (j i : ℕ) (h : j < 4) where
  pub without_bit : bit (get_or (without_of w x) j 0) i ≡ bit (get_or w j 0) i - bit (get_or x j 0) i
  unfolding without_of
  without_bit = rw (each_word_lem (λ k. cleared_of (get_or w k 0) (get_or x k 0)) j h) (cleared_bit (get_or w j 0) (get_or x j 0) i)

  pub with_bit : bit (get_or (with_of w x) j 0) i ≡ max (bit (get_or w j 0) i) (bit (get_or x j 0) i)
  unfolding with_of
  with_bit = rw (each_word_lem (λ k. bit_or (get_or w k 0) (get_or x k 0)) j h) (or_bit (get_or w j 0) (get_or x j 0) i)

pub all_bit : (n j i : ℕ) → j < 4 → i < 64 → bit (get_or (all_below n) j 0) i ≡ one_if (ltb (64 * j + i) n)
unfolding all_below
all_bit n j i h hi =
    rw (each_word_lem (λ k. ones_below (n - 64 * k)) j h) (below_bit (n - 64 * j) i hi ∙ ap one_if (same (ltb (64 * j + i) n) refl))
  where
    same : (t : Bool) → ltb (64 * j + i) n ≡ t → ltb i (n - 64 * j) ≡ t
    same true e = lt-ltb i (n - 64 * j) (omega (arith, ltb-true (64 * j + i) n e))
    same false e = le-ltb i (n - 64 * j) (omega (arith, ltb-false (64 * j + i) n e))

-- ---- the words fit

ones_fit : (n : ℕ) → ones_below n < 2 ^ 64
unfolding ones_below
ones_fit n = omega (arith, pow_mono {i = min n 64} {j = 64} (few n), pow_pos (min n 64))

pub all_words : (n : ℕ) → Words (all_below n)
unfolding all_below
all_words n =
    record { first = ones_fit (n - 0); second = ones_fit (n - 64); third = ones_fit (n - 128); fourth = ones_fit (n - 192) }
