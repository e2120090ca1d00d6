-- Taking and dropping the lowest set bits of a word is taking and dropping the first of its places.
use Prim.Native.Nat.{ℕ, zero, suc, ◌+◌, ◌-◌, ◌*◌, ◌/◌, ◌%◌, ◌^◌, ◌≤◌, ◌<◌}
use mathlib.Core.Path.{◌≡◌, refl, sym, ◌∙◌}
use mathlib.Core.Bool.{Bool, true, false}
use mathlib.Core.List.{List, [], ◌∷◌}
use native.Mathlib.Omega.{arith}
use borrow.Author.Tests.{eqb-true, eqb-false, ne_eqb}
use lib.Arith.{lt-one}
use lib.Bits.{bit_and, and_step, and_self}
use lib.Count.{ones, ones_step, count_trailing_zeros, under}
use lib.Dec.{eqb}
use lib.ListN.{length, take, drop}
use Rattle.bitset.specs.Words.{cons_if, places_of, pick, drop_bits, take_bits}
use Rattle.bitset.proofs.Numbers.{half_below}

-- ---- how many

length_if : (b : Bool) (i x : ℕ) (l : List ℕ) (n : ℕ) → eqb (x % 2) 0 ≡ b → length l ≡ n → length (cons_if b i l) ≡ x % 2 + n
length_if true i x l n e h = omega (arith, eqb-true (x % 2) 0 e, h)
length_if false i x l n e h = omega (arith, eqb-false (x % 2) 0 e, h)

pub places_length : (i k x : ℕ) → x < 2 ^ k → length (places_of i k x) ≡ ones x
unfolding places_of ones
places_length i zero x h = rw (lt-one h)
places_length i (suc k) x h =
    length_if (eqb (x % 2) 0) i x (places_of (suc i) k (x / 2)) (ones (x / 2)) refl (places_length (suc i) k (x / 2) (half_below k x h))
    ∙ sym (ones_step x)

-- ---- what is left

drop_le_if : (b : Bool) (x r : ℕ) → r ≤ x / 2 → pick b x (r * 2) ≤ x
drop_le_if true x r h = omega arith
drop_le_if false x r h = omega arith

pub drop_le : (k x n : ℕ) → drop_bits k x n ≤ x
unfolding drop_bits
drop_le zero x n = omega arith
drop_le (suc k) x n = drop_le_if (eqb n 0) x (drop_bits k (x / 2) (n - x % 2)) (drop_le k (x / 2) (n - x % 2))

-- none is dropped
pub drop_none : (k x : ℕ) → x < 2 ^ k → drop_bits k x 0 ≡ x
unfolding drop_bits
drop_none zero x h = sym (lt-one h)
drop_none (suc k) x h = refl

-- a word with no bit set is 0
ones_none : (k x : ℕ) → x < 2 ^ k → ones x ≡ 0 → x ≡ 0
ones_none zero x h e = lt-one h
ones_none (suc k) x h e =
    omega (arith, ones_step x, ones_none k (x / 2) (half_below k x h) (omega (arith, ones_step x)))

ones_some : (x : ℕ) → 0 < ones x → 1 ≤ x
unfolding ones
ones_some zero h = absurd (omega (arith, h))
ones_some (suc x) h = omega arith

-- all are dropped
pub drop_all : (k x n : ℕ) → x < 2 ^ k → ones x ≤ n → drop_bits k x n ≡ 0
unfolding drop_bits
drop_all zero x n h l = refl
drop_all (suc k) x n h l = go (eqb n 0) refl (drop_all k (x / 2) (n - x % 2) (half_below k x h) (omega (arith, ones_step x)))
  where
    go : (b : Bool) → eqb n 0 ≡ b → drop_bits k (x / 2) (n - x % 2) ≡ 0 → pick b x (drop_bits k (x / 2) (n - x % 2) * 2) ≡ 0
    go true e r = ones_none (suc k) x h (omega (arith, eqb-true n 0 e))
    go false e r = omega (arith, r)

-- fewer are dropped than there are
pub drop_some : (k x n : ℕ) → x < 2 ^ k → n < ones x → 1 ≤ drop_bits k x n
unfolding drop_bits
drop_some zero x n h l = absurd (omega (arith, ones_some x (omega arith), lt-one h))
drop_some (suc k) x n h l = go (eqb n 0) refl (drop_some k (x / 2) (n - x % 2) (half_below k x h))
  where
    go : (b : Bool) → eqb n 0 ≡ b → (n - x % 2 < ones (x / 2) → 1 ≤ drop_bits k (x / 2) (n - x % 2))
        → 1 ≤ pick b x (drop_bits k (x / 2) (n - x % 2) * 2)
    go true e rest = ones_some x (omega arith)
    go false e rest = omega (arith, rest (omega (arith, ones_step x, eqb-false n 0 e)))

-- ---- the lowest bit cleared

low_odd : (y : ℕ) → y % 2 ≡ 1 → bit_and y (y - 1) ≡ y / 2 * 2
low_odd y e =
    let h : (y - 1) / 2 ≡ y / 2 = omega arith in
    let d : (y - 1) % 2 ≡ 0 = omega arith in
    and_step y (y - 1) ∙ rw (h, d, and_self (y / 2)) (omega arith)

low_even : (y : ℕ) → y % 2 ≡ 0 → 1 ≤ y → bit_and y (y - 1) ≡ bit_and (y / 2) (y / 2 - 1) * 2
low_even y e l =
    let h : (y - 1) / 2 ≡ y / 2 - 1 = omega arith in
    and_step y (y - 1) ∙ rw (h) (omega (arith, e))

pub drop_more : (k x n : ℕ) → x < 2 ^ k → n < ones x → bit_and (drop_bits k x n) (drop_bits k x n - 1) ≡ drop_bits k x (n + 1)
unfolding drop_bits
drop_more zero x n h l = absurd (omega (arith, ones_some x (omega arith), lt-one h))
drop_more (suc k) x n h l = go (eqb n 0) refl (eqb (x % 2) 0) refl (λ m. drop_more k (x / 2) m (half_below k x h))
  where
    a : ℕ
    a = x / 2

    below : x / 2 < 2 ^ k
    below = half_below k x h

    more : eqb (n + 1) 0 ≡ false
    more = ne_eqb (n + 1) 0 (λ e. omega (arith, e))

    go : (b : Bool) → eqb n 0 ≡ b → (c : Bool) → eqb (x % 2) 0 ≡ c
        → ((m : ℕ) → m < ones (x / 2) → bit_and (drop_bits k (x / 2) m) (drop_bits k (x / 2) m - 1) ≡ drop_bits k (x / 2) (m + 1))
        → bit_and (pick b x (drop_bits k (x / 2) (n - x % 2) * 2)) (pick b x (drop_bits k (x / 2) (n - x % 2) * 2) - 1)
        ≡ pick (eqb (n + 1) 0) x (drop_bits k (x / 2) (n + 1 - x % 2) * 2)
    go true e true f rest =
        let z : x % 2 ≡ 0 = eqb-true (x % 2) 0 f in
        let m : n + 1 - x % 2 ≡ 0 + 1 = omega (arith, eqb-true n 0 e) in
        let some : 0 < ones (x / 2) = omega (arith, ones_step x) in
        rw (more, m, ← rest 0 some, drop_none k (x / 2) below) (low_even x z (ones_some x (omega arith)))
    go true e false f rest =
        let m : n + 1 - x % 2 ≡ 0 = omega (arith, eqb-true n 0 e, eqb-false (x % 2) 0 f) in
        rw (more, m, drop_none k (x / 2) below) (low_odd x (omega (arith, eqb-false (x % 2) 0 f)))
    go false e c f rest =
        let few : n - x % 2 < ones (x / 2) = omega (arith, ones_step x, eqb-false n 0 e) in
        let m : n + 1 - x % 2 ≡ n - x % 2 + 1 = omega (arith, eqb-false n 0 e) in
        let half : drop_bits k (x / 2) (n - x % 2) * 2 / 2 ≡ drop_bits k (x / 2) (n - x % 2) = omega arith in
        rw (more, m, ← rest (n - x % 2) few)
        (low_even (drop_bits k (x / 2) (n - x % 2) * 2) (omega arith) (omega (arith, drop_some k (x / 2) (n - x % 2) below few)) ∙ rw half)

-- ---- the places of what is left, and of what is taken

pub places_zero : (i k : ℕ) → places_of i k 0 ≡ []
unfolding places_of
places_zero i zero = refl
places_zero i (suc k) = places_zero (suc i) k

-- an even word has the places of its half
pub places_even : (i k r : ℕ) → places_of i (suc k) (r * 2) ≡ places_of (suc i) k r
unfolding places_of
places_even i k r =
    let d : r * 2 % 2 ≡ 0 = omega arith in
    let h : r * 2 / 2 ≡ r = omega arith in
    rw (d, h)

drop_if : (b : Bool) (i x n : ℕ) (l : List ℕ) → eqb (x % 2) 0 ≡ b → (n ≡ 0 → ⊥) → drop (n - x % 2) l ≡ drop n (cons_if b i l)
drop_if true i x n l e z = let m : n - x % 2 ≡ n = omega (arith, eqb-true (x % 2) 0 e) in rw m
drop_if false i x zero l e z = absurd (z refl)
drop_if false i x (suc n) l e z = let m : suc n - x % 2 ≡ n = omega (arith, eqb-false (x % 2) 0 e) in rw m

pub places_drop : (i k x n : ℕ) → x < 2 ^ k → places_of i k (drop_bits k x n) ≡ drop n (places_of i k x)
unfolding drop_bits places_of
places_drop i zero x n h = none n
  where
    none : (m : ℕ) → ◌≡◌ {A = List ℕ} [] (drop m [])
    none zero = refl
    none (suc m) = refl
places_drop i (suc k) x n h = go (eqb n 0) refl (places_drop (suc i) k (x / 2) (n - x % 2) (half_below k x h))
  where
    go : (b : Bool) → eqb n 0 ≡ b
        → places_of (suc i) k (drop_bits k (x / 2) (n - x % 2)) ≡ drop (n - x % 2) (places_of (suc i) k (x / 2))
        → places_of i (suc k) (pick b x (drop_bits k (x / 2) (n - x % 2) * 2)) ≡ drop n (cons_if (eqb (x % 2) 0) i (places_of (suc i) k (x / 2)))
    go true e rest = rw (eqb-true n 0 e)
    go false e rest =
        places_even i k (drop_bits k (x / 2) (n - x % 2)) ∙ rest
        ∙ drop_if (eqb (x % 2) 0) i x n (places_of (suc i) k (x / 2)) refl (eqb-false n 0 e)

take_if : (b : Bool) (i x n : ℕ) (l : List ℕ) → eqb (x % 2) 0 ≡ b → (n ≡ 0 → ⊥) → cons_if b i (take (n - x % 2) l) ≡ take n (cons_if b i l)
take_if true i x n l e z = let m : n - x % 2 ≡ n = omega (arith, eqb-true (x % 2) 0 e) in rw m
take_if false i x zero l e z = absurd (z refl)
take_if false i x (suc n) l e z = let m : suc n - x % 2 ≡ n = omega (arith, eqb-false (x % 2) 0 e) in rw m

pub places_take : (i k x n : ℕ) → x < 2 ^ k → places_of i k (take_bits k x n) ≡ take n (places_of i k x)
unfolding drop_bits places_of
places_take i zero x n h = none n
  where
    none : (m : ℕ) → ◌≡◌ {A = List ℕ} [] (take m [])
    none zero = refl
    none (suc m) = refl
places_take i (suc k) x n h = go (eqb n 0) refl (places_take (suc i) k (x / 2) (n - x % 2) (half_below k x h))
  where
    go : (b : Bool) → eqb n 0 ≡ b
        → places_of (suc i) k (x / 2 - drop_bits k (x / 2) (n - x % 2)) ≡ take (n - x % 2) (places_of (suc i) k (x / 2))
        → places_of i (suc k) (x - pick b x (drop_bits k (x / 2) (n - x % 2) * 2)) ≡ take n (cons_if (eqb (x % 2) 0) i (places_of (suc i) k (x / 2)))
    go true e rest = let z : x - x ≡ 0 = omega arith in rw (eqb-true n 0 e, z) (places_zero i (suc k))
    go false e rest =
        let le : drop_bits k (x / 2) (n - x % 2) ≤ x / 2 = drop_le k (x / 2) (n - x % 2) in
        let d : (x - drop_bits k (x / 2) (n - x % 2) * 2) % 2 ≡ x % 2 = omega arith in
        let q : (x - drop_bits k (x / 2) (n - x % 2) * 2) / 2 ≡ x / 2 - drop_bits k (x / 2) (n - x % 2) = omega arith in
        rw (d, q, rest) (take_if (eqb (x % 2) 0) i x n (places_of (suc i) k (x / 2)) refl (eqb-false n 0 e))

-- ---- the first place is that of the lowest set bit, and the others are those of the word without it

pub places_lowest : (i k x : ℕ) → x < 2 ^ k → 1 ≤ x
    → places_of i k x ≡ (i + count_trailing_zeros k x) ∷ places_of i k (bit_and x (x - 1))
unfolding places_of count_trailing_zeros
places_lowest i zero x h l = absurd (omega (arith, lt-one h))
places_lowest i (suc k) x h l = go (eqb (x % 2) 0) refl (places_lowest (suc i) k (x / 2) (half_below k x h))
  where
    go : (b : Bool) → eqb (x % 2) 0 ≡ b
        → (1 ≤ x / 2 → places_of (suc i) k (x / 2) ≡ (suc i + count_trailing_zeros k (x / 2)) ∷ places_of (suc i) k (bit_and (x / 2) (x / 2 - 1)))
        → cons_if b i (places_of (suc i) k (x / 2)) ≡ (i + under (x % 2) (count_trailing_zeros k (x / 2))) ∷ places_of i (suc k) (bit_and x (x - 1))
    go true e rest =
        let z : x % 2 ≡ 0 = eqb-true (x % 2) 0 e in
        let s : suc i + count_trailing_zeros k (x / 2) ≡ i + suc (count_trailing_zeros k (x / 2)) = omega arith in
        rest (omega (arith, z)) ∙ rw (z, low_even x z l, places_even i k (bit_and (x / 2) (x / 2 - 1)), s)
    go false e rest =
        let z : x % 2 ≡ 1 = omega (arith, eqb-false (x % 2) 0 e) in
        let s : i + 0 ≡ i = omega arith in
        rw (z, low_odd x z, places_even i k (x / 2), s)
