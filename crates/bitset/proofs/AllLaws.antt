-- The places of all below a place are the numbers below it, at most 256.
use Prim.Native.Nat.{ℕ, zero, suc, ◌+◌, ◌-◌, ◌/◌, ◌%◌, ◌^◌, ◌≤◌, ◌<◌, min}
use mathlib.Core.Path.{◌≡◌, refl, ap}
use mathlib.Core.Bool.{Bool, true, false}
use mathlib.Core.List.{List, ◌∷◌, ◌++◌, append-nil}
use native.Mathlib.Nat.{pow-suc}
use native.Mathlib.Omega.{arith}
use borrow.Author.Tests.{ltb-true, ltb-false}
use lib.Dec.{ltb}
use lib.Pow.{pow_pos}
use Rattle.bitset.specs.Words.{places_of, ones_below}
use Rattle.bitset.specs.Places.{set_places, all_below, up_from}
use Rattle.bitset.proofs.Numbers.{less_none, less_more, few}
use Rattle.bitset.proofs.PlaceLaws.{places_zero}

up_append : (i a b : ℕ) → up_from i a ++ up_from (i + a) b ≡ up_from i (a + b)
unfolding up_from
up_append i zero b = let z : i + 0 ≡ i = omega arith in let y : 0 + b ≡ b = omega arith in rw (z, y)
up_append i (suc a) b =
    let z : i + suc a ≡ suc i + a = omega arith in
    let y : suc a + b ≡ suc (a + b) = omega arith in
    rw (z, y) (ap (λ (l : List ℕ). i ∷ l) (up_append (suc i) a b))

-- so many from a place on, and those that are left over from a place further on
up_over : (i k m n : ℕ) → up_from i (min n k) ++ up_from (i + k) (min (n - k) m) ≡ up_from i (min n (k + m))
unfolding up_from
up_over i k m n = go (ltb n k) refl
  where
    go : (t : Bool) → ltb n k ≡ t → up_from i (min n k) ++ up_from (i + k) (min (n - k) m) ≡ up_from i (min n (k + m))
    go true e =
        let h : n < k = ltb-true n k e in
        let a : min n k ≡ n = omega arith in
        let b : min (n - k) m ≡ 0 = omega arith in
        let c : min n (k + m) ≡ n = omega arith in
        rw (a, b, c) (append-nil (up_from i n))
    go false e =
        let h : k ≤ n = ltb-false n k e in
        let a : min n k ≡ k = omega arith in
        let c : min n (k + m) ≡ k + min (n - k) m = omega arith in
        rw (a, c) (up_append i k (min (n - k) m))

places_ones : (i k m : ℕ) → m ≤ k → places_of i k (2 ^ m - 1) ≡ up_from i m
unfolding places_of up_from
places_ones i k zero h = places_zero i k
places_ones i zero (suc m) h = absurd (omega arith)
places_ones i (suc k) (suc m) h =
    let half : (2 ^ suc m - 1) / 2 ≡ 2 ^ m - 1 = omega (arith, pow-suc 2 m, pow_pos m) in
    let odd : (2 ^ suc m - 1) % 2 ≡ 1 = omega (arith, pow-suc 2 m, pow_pos m) in
    rw (half, odd) (ap (λ (l : List ℕ). i ∷ l) (places_ones (suc i) k m (omega arith)))

pub all_places : (n : ℕ) → set_places (all_below n) ≡ up_from 0 (min n 256)
unfolding set_places all_below ones_below
all_places n =
    rw (
      less_none n,
      less_more n 64 64,
      less_more n 128 64,
      less_more n 64 64,
      places_ones 0 64 (min n 64) (few n),
      places_ones 64 64 (min (n - 64) 64) (few (n - 64)),
      places_ones 128 64 (min (n - 64 - 64) 64) (few (n - 64 - 64)),
      places_ones 192 64 (min (n - 64 - 64 - 64) 64) (few (n - 64 - 64 - 64)),
      up_over 128 64 64 (n - 64 - 64),
      up_over 64 64 128 (n - 64),
    )
    (up_over 0 64 192 n)
