-- What `with_bits` and `without_bits` do, bit by bit: the bits named move, and no other.
use Prim.Native.Nat.{ℕ, zero, suc, ◌+◌, ◌-◌, ◌*◌, ◌/◌, ◌%◌, ◌^◌, ◌<◌, min, max}
use mathlib.Core.Path.{◌≡◌, sym, ap, ◌∙◌}
use mathlib.Core.Bool.{false, not}
use native.Mathlib.Nat.{pow-suc, zero-div, lt_of_le_of_lt}
use native.Mathlib.Omega.{arith}
use borrow.Author.Tests.{eqb-true, eq-eqb, not-false}
use lib.Bits.{bit_and, and_step, or_step, and_shr, or_shr, and_le_l}
use lib.Dec.{eqb, lit<}
use lib.Pow.{shr-shr}
use lib.Arith.{lt-one}
use Rattle.register.specs.Bits.{with_bits, without_bits, only_bits, any_of, bit}

-- 2 ^ (k + 1) - 1 - b, halved and its last digit
not_half : (k b : ℕ) → b < 2 ^ suc k → (2 ^ suc k - 1 - b) / 2 ≡ 2 ^ k - 1 - b / 2
not_half k b h = let p : 2 ^ suc k ≡ 2 ^ k * 2 = pow-suc 2 k in omega arith

not_odd : (k b : ℕ) → b < 2 ^ suc k → (2 ^ suc k - 1 - b) % 2 ≡ 1 - b % 2
not_odd k b h = let p : 2 ^ suc k ≡ 2 ^ k * 2 = pow-suc 2 k in omega arith

half_below : (k b : ℕ) → b < 2 ^ suc k → b / 2 < 2 ^ k
half_below k b h = let p : 2 ^ suc k ≡ 2 ^ k * 2 = pow-suc 2 k in omega arith

-- what a mask takes away and what it leaves make up the word
pub and_not : (k a b : ℕ) → a < 2 ^ k → b < 2 ^ k → bit_and a (2 ^ k - 1 - b) + bit_and a b ≡ a
and_not zero a b ha hb = rw (lt-one ha)
and_not (suc k) a b ha hb =
    rw (and_step a (2 ^ suc k - 1 - b), and_step a b, not_half k b hb, not_odd k b hb)
    (omega (arith, and_not k (a / 2) (b / 2) (half_below k a ha) (half_below k b hb)))

-- a bit further up is a bit of the half
bit_half : (w i : ℕ) → bit w (suc i) ≡ bit (w / 2) i
bit_half w i = rw (one_add_suc i, ← shr-shr w 1 i)
  where
    one_add_suc : (n : ℕ) → suc n ≡ 1 + n
    one_add_suc n = omega arith

-- the complement within k bits, bit by bit
pub not_bit : (k i b : ℕ) → i < k → b < 2 ^ k → bit (2 ^ k - 1 - b) i ≡ 1 - bit b i
not_bit zero i b hi hb = absurd (omega arith)
not_bit (suc k) zero b hi hb = let p : 2 ^ suc k ≡ 2 ^ k * 2 = pow-suc 2 k in omega arith
not_bit (suc k) (suc i) b hi hb =
    rw (bit_half (2 ^ suc k - 1 - b) i, bit_half b i, not_half k b hb)
    (not_bit k i (b / 2) (omega arith) (half_below k b hb))

pub and_bit : (a b i : ℕ) → bit (bit_and a b) i ≡ min (bit a i) (bit b i)
and_bit a b i = rw (and_shr a b i, and_step (a / 2 ^ i) (b / 2 ^ i)) (omega arith)

pub only_bit : (a b i : ℕ) → bit (only_bits a b) i ≡ min (bit a i) (bit b i)
unfolding only_bits
only_bit a b i = and_bit a b i

pub with_bit : (a b i : ℕ) → bit (with_bits a b) i ≡ max (bit a i) (bit b i)
unfolding with_bits
with_bit a b i = rw (or_shr a b i, or_step (a / 2 ^ i) (b / 2 ^ i)) (omega arith)

pub without_bit : (a b i : ℕ) → b < 2 ^ 32 → i < 32 → bit (without_bits a b) i ≡ min (bit a i) (1 - bit b i)
unfolding without_bits
without_bit a b i hb hi = rw (and_bit a (2 ^ 32 - 1 - b) i, not_bit 32 i b hi hb)

-- "read value or s, without c": a bit of c is clear, another bit of s is set, and every other bit is the read one
module _ (v s c i : ℕ) (hc : c < 2 ^ 32) (hi : i < 32) where
  changed : bit (without_bits (with_bits v s) c) i ≡ min (max (bit v i) (bit s i)) (1 - bit c i)
  changed = rw (without_bit (with_bits v s) c i hc hi, with_bit v s i)

  pub cleared : bit c i ≡ 1 → bit (without_bits (with_bits v s) c) i ≡ 0
  cleared e = omega (arith, changed)

  pub set_bit : bit c i ≡ 0 → bit s i ≡ 1 → bit (without_bits (with_bits v s) c) i ≡ 1
  set_bit e f = omega (arith, changed)

  pub kept : bit c i ≡ 0 → bit s i ≡ 0 → bit (without_bits (with_bits v s) c) i ≡ bit v i
  kept e f = omega (arith, changed)

-- two words of k bits are the same where every bit is
pub same_word : (k a b : ℕ) → a < 2 ^ k → b < 2 ^ k → ((i : ℕ) → i < k → bit a i ≡ bit b i) → a ≡ b
same_word zero a b ha hb h = omega arith
same_word (suc k) a b ha hb h =
    omega (arith, h 0 (omega arith), same_word k (a / 2) (b / 2) (half_below k a ha) (half_below k b hb) below)
  where
    below : (i : ℕ) → i < k → bit (a / 2) i ≡ bit (b / 2) i
    below i hi = sym (bit_half a i) ∙ h (suc i) (omega arith) ∙ bit_half b i

-- `any_of` is false exactly where no position has a bit of both
pub none_of : (v b i : ℕ) → any_of v b ≡ false → min (bit v i) (bit b i) ≡ 0
unfolding any_of
none_of v b i e =
    let z : bit_and v b ≡ 0 = eqb-true (bit_and v b) 0 (not-false (eqb (bit_and v b) 0) e) in
    sym (and_bit v b i) ∙ rw z (zero_bit i)
  where
    zero_bit : (n : ℕ) → bit 0 n ≡ 0
    zero_bit n = rw (zero-div (2 ^ n))

pub none_of_any : (v b : ℕ) → v < 2 ^ 32 → ((i : ℕ) → i < 32 → min (bit v i) (bit b i) ≡ 0) → any_of v b ≡ false
unfolding any_of
none_of_any v b hv h =
    ap not (eq-eqb (bit_and v b) 0 (same_word 32 (bit_and v b) 0 (lt_of_le_of_lt (and_le_l v b) hv) (lit< tt) each))
  where
    each : (i : ℕ) → i < 32 → bit (bit_and v b) i ≡ bit 0 i
    each i hi = and_bit v b i ∙ h i hi ∙ sym (rw (zero-div (2 ^ i)))
