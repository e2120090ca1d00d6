-- A field of a word, replaced: it reads back as what was put there, and every field beside it is as it was.
-- The words' `or`, `and` and complement, where they meet a field.
use Prim.Native.Nat.{ℕ, zero, suc, ◌+◌, ◌-◌, ◌*◌, ◌/◌, ◌%◌, ◌^◌, ◌≤◌, ◌<◌}
use mathlib.Core.Path.{◌≡◌, refl, sym, ap, ap₂, ◌∙◌}
use native.Mathlib.Nat.{add-mul, add-zero, lt_of_le_of_lt, lt_of_lt_of_le, mod-eq_of_lt, mod-lt, suc-mul, zero-mul}
use native.Mathlib.Omega.{arith}
use borrow.Author.Tests.{ne_eqb}
use mathlib.Core.Bool.{not}
use lib.Bits.{bit_and, and_block, and_high, and_le_l, and_le_r, and_mod, and_zero_r, or_add_and, or_disjoint}
use lib.Pow.{pow-add, pow_mono, pow_pos, pow-sub-lt, split, high, low, shr_lt, shr-shr, mod-mod-pow, high_ones}
use lib.Pow
use lib.Dec.{eqb, eqb-suc-zero}
use lib.Arith.{digits_lt}
use Rattle.register.specs.Bits.{with_bits, without_bits, any_of, field, with_field}
use Rattle.register.proofs.BitLaws.{and_not}

-- above the field, the field, below it
pub above : ℕ → ℕ → ℕ → ℕ
above w lo n = w / 2 ^ lo / 2 ^ n

module _ (w lo n v : ℕ) where
  -- the word by these three
  word_is : w ≡ (above w lo n * 2 ^ n + field w lo n) * 2 ^ lo + w % 2 ^ lo
  unfolding above
  word_is = sym (rw (split (w / 2 ^ lo) n, split w lo))

  pub with_is : with_field w lo n v ≡ (above w lo n * 2 ^ n + v) * 2 ^ lo + w % 2 ^ lo
  with_is =
      let a : ℕ = above w lo n * 2 ^ n in
      let d : (a + field w lo n) * 2 ^ lo ≡ a * 2 ^ lo + field w lo n * 2 ^ lo = add-mul a (field w lo n) (2 ^ lo) in
      let e : (a + v) * 2 ^ lo ≡ a * 2 ^ lo + v * 2 ^ lo = add-mul a v (2 ^ lo) in
      omega (arith, word_is)

module _ (w lo n v : ℕ) (hv : v < 2 ^ n) where
  pub field_with : field (with_field w lo n v) lo n ≡ v
  field_with =
      rw (with_is w lo n v, high (above w lo n * 2 ^ n + v) lo (mod-lt w (pow_pos lo))) (low (above w lo n) n hv)

  pub above_with : above (with_field w lo n v) lo n ≡ above w lo n
  unfolding above
  above_with = rw (with_is w lo n v, high (above w lo n * 2 ^ n + v) lo (mod-lt w (pow_pos lo))) (high (above w lo n) n hv)

  pub below_with : with_field w lo n v % 2 ^ lo ≡ w % 2 ^ lo
  below_with = rw (with_is w lo n v) (low (above w lo n * 2 ^ n + v) lo (mod-lt w (pow_pos lo)))

-- words that agree below a place, or above it, agree on every field there
low_field : (x y at lo n : ℕ) → lo + n ≤ at → x % 2 ^ at ≡ y % 2 ^ at → field x lo n ≡ field y lo n
low_field x y at lo n h e =
    sym (Pow.field x n lo) ∙ ap (λ (m : ℕ). m / 2 ^ lo) (sym (part x) ∙ ap (λ (m : ℕ). m % 2 ^ (n + lo)) e ∙ part y)
    ∙ Pow.field y n lo
  where
    whole : (at - (n + lo)) + (n + lo) ≡ at
    whole = omega arith

    part : (z : ℕ) → z % 2 ^ at % 2 ^ (n + lo) ≡ z % 2 ^ (n + lo)
    part z = rw whole at (mod-mod-pow z (at - (n + lo)) (n + lo))

high_field : (x y lo n lo' n' : ℕ) → lo + n ≤ lo' → above x lo n ≡ above y lo n → field x lo' n' ≡ field y lo' n'
unfolding above
high_field x y lo n lo' n' h e = ap (λ (m : ℕ). m % 2 ^ n') (sym (part x) ∙ ap (λ (m : ℕ). m / 2 ^ (lo' - (lo + n))) e ∙ part y)
  where
    whole : lo + n + (lo' - (lo + n)) ≡ lo'
    whole = omega arith

    part : (z : ℕ) → z / 2 ^ lo / 2 ^ n / 2 ^ (lo' - (lo + n)) ≡ z / 2 ^ lo'
    part z = rw (shr-shr z lo n, shr-shr z (lo + n) (lo' - (lo + n)), whole)

module _ (w lo n v : ℕ) (hv : v < 2 ^ n) (lo' n' : ℕ) where
  pub field_below : lo' + n' ≤ lo → field (with_field w lo n v) lo' n' ≡ field w lo' n'
  field_below h = low_field (with_field w lo n v) w lo lo' n' h (below_with w lo n v hv)

  pub field_above : lo + n ≤ lo' → field (with_field w lo n v) lo' n' ≡ field w lo' n'
  field_above h = high_field (with_field w lo n v) w lo n lo' n' h (above_with w lo n v hv)

-- the word stays as wide as it was
pub with_lt : (k w lo n v : ℕ) → w < 2 ^ (k + n + lo) → v < 2 ^ n → with_field w lo n v < 2 ^ (k + n + lo)
unfolding above
with_lt k w lo n v hw hv =
    rw (with_is w lo n v, pow-add 2 (k + n) lo, pow-add 2 k n)
    (digits_lt (digits_lt (shr_lt k n (shr_lt (k + n) lo hw)) hv) (mod-lt w (pow_pos lo)))

-- ---- the words' own operations, where they meet a field

-- 2 ^ (n + lo) - 2 ^ lo has the bits of the field and no other
pub and_field : (w lo n : ℕ) → bit_and w (2 ^ (n + lo) - 2 ^ lo) ≡ field w lo n * 2 ^ lo
and_field w lo n = and_high w n lo

pub set_field : (w lo n : ℕ) → with_bits w (2 ^ (n + lo) - 2 ^ lo) ≡ with_field w lo n (2 ^ n - 1)
unfolding with_bits
set_field w lo n =
    let mask : ℕ = 2 ^ (n + lo) - 2 ^ lo in
    omega (arith, or_add_and w mask, and_field w lo n, and_le_l w mask, high_ones n lo)

pub clear_field : (w lo n : ℕ) → w < 2 ^ 32 → n + lo ≤ 32 → without_bits w (2 ^ (n + lo) - 2 ^ lo) ≡ with_field w lo n 0
unfolding without_bits
clear_field w lo n hw h =
    let mask : ℕ = 2 ^ (n + lo) - 2 ^ lo in
    let hm : mask < 2 ^ 32 = lt_of_lt_of_le (pow-sub-lt (n + lo) (pow_pos lo)) (pow_mono h) in
    omega (arith, and_not 32 w mask hw hm, and_field w lo n)

-- v put where the field is clear
pub put_field : (w lo n v : ℕ) → v < 2 ^ n → field w lo n ≡ 0 → with_bits w (v * 2 ^ lo) ≡ with_field w lo n v
unfolding with_bits
put_field w lo n v hv e = or_disjoint w (v * 2 ^ lo) apart ∙ ap (λ (x : ℕ). x + v * 2 ^ lo) (rw e (omega arith))
  where
    shifted : bit_and (w / 2 ^ lo) v ≡ 0
    shifted =
        sym (mod-eq_of_lt (lt_of_le_of_lt (and_le_r (w / 2 ^ lo) v) hv)) ∙ and_mod (w / 2 ^ lo) v n
        ∙ ap (λ (x : ℕ). bit_and x (v % 2 ^ n)) e

    apart : bit_and w (v * 2 ^ lo) ≡ 0
    apart =
        ap₂ bit_and (sym (split w lo)) (sym (add-zero (v * 2 ^ lo)))
        ∙ and_block lo (w / 2 ^ lo) v (w % 2 ^ lo) 0 (mod-lt w (pow_pos lo)) (pow_pos lo)
        ∙ rw (shifted, and_zero_r (w % 2 ^ lo)) (omega arith)

-- any bit of the field
pub any_field : (w lo n : ℕ) → any_of w (2 ^ (n + lo) - 2 ^ lo) ≡ not (eqb (field w lo n) 0)
unfolding any_of
any_field w lo n = ap not (ap (λ (x : ℕ). eqb x 0) (and_field w lo n) ∙ scaled (field w lo n) refl)
  where
    scaled : (f : ℕ) → field w lo n ≡ f → eqb (f * 2 ^ lo) 0 ≡ eqb f 0
    scaled zero e = ap (λ (x : ℕ). eqb x 0) (zero-mul (2 ^ lo))
    scaled (suc f) e =
        ne_eqb (suc f * 2 ^ lo) 0 (λ z. omega (arith, pow_pos lo, suc-mul f (2 ^ lo))) ∙ sym (eqb-suc-zero f)

-- what was put in a field before is gone
pub with_with : (w lo n u v : ℕ) → u < 2 ^ n → with_field (with_field w lo n u) lo n v ≡ with_field w lo n v
with_with w lo n u v hu =
    with_is (with_field w lo n u) lo n v
    ∙ ap₂ (λ (a b : ℕ). (a * 2 ^ n + v) * 2 ^ lo + b) (above_with w lo n u hu) (below_with w lo n u hu)
    ∙ sym (with_is w lo n v)

-- (w & !mask) | (v << lo)
pub replace_field : (w lo n v : ℕ) → w < 2 ^ 32 → n + lo ≤ 32 → v < 2 ^ n
    → with_bits (without_bits w (2 ^ (n + lo) - 2 ^ lo)) (v * 2 ^ lo) ≡ with_field w lo n v
replace_field w lo n v hw h hv =
    ap (λ (x : ℕ). with_bits x (v * 2 ^ lo)) (clear_field w lo n hw h)
    ∙ put_field (with_field w lo n 0) lo n v hv (field_with w lo n 0 (pow_pos n))
    ∙ with_with w lo n 0 v (pow_pos n)

-- put in a field that is clear, it adds
pub with_clear : (w lo n v : ℕ) → field w lo n ≡ 0 → with_field w lo n v ≡ w + v * 2 ^ lo
with_clear w lo n v e = ap (λ (x : ℕ). x + v * 2 ^ lo) (rw e (omega arith))
