-- The list of f of each number: its first so many and the others, one value throughout, and two that are the same.
use Prim.Native.Nat.{ℕ, zero, suc, ◌+◌, ◌-◌, ◌≤◌, ◌<◌}
use mathlib.Core.Path.{◌≡◌, refl, sym, ap, ◌∙◌}
use mathlib.Core.List.{List, ◌∷◌, ◌++◌}
use native.Mathlib.Omega.{arith}
use lib.ListN.{get_or, take, drop, replicate}
use Rattle.words.specs.View.{each_from}
use Rattle.words.proofs.Each.{each_here}

pub each_within : (f g : ℕ → ℕ) (k n : ℕ) → ((j : ℕ) → k ≤ j → j < k + n → f j ≡ g j) → each_from f k n ≡ each_from g k n
unfolding each_from
each_within f g k zero h = refl
each_within f g k (suc n) h =
    rw (h k (omega arith) (omega arith), each_within f g (suc k) n (λ j l m. h j (omega (arith, l)) (omega (arith, m))))

pub each_take : (f : ℕ → ℕ) (k n m : ℕ) → m ≤ n → take m (each_from f k n) ≡ each_from f k m
unfolding each_from
each_take f k n zero h = refl
each_take f k zero (suc m) h = absurd (omega arith)
each_take f k (suc n) (suc m) h = ap (λ (l : List ℕ). f k ∷ l) (each_take f (suc k) n m (omega arith))

pub each_drop : (f : ℕ → ℕ) (k n m : ℕ) → m ≤ n → drop m (each_from f k n) ≡ each_from f (k + m) (n - m)
unfolding each_from
each_drop f k n zero h = let z : k + 0 ≡ k = omega arith in let y : n - 0 ≡ n = omega arith in rw (z, y)
each_drop f k zero (suc m) h = absurd (omega arith)
each_drop f k (suc n) (suc m) h =
    let z : k + suc m ≡ suc k + m = omega arith in
    let y : suc n - suc m ≡ n - m = omega arith in
    rw (z, y) (each_drop f (suc k) n m (omega arith))

pub each_append : (f : ℕ → ℕ) (k n m : ℕ) → each_from f k n ++ each_from f (k + n) m ≡ each_from f k (n + m)
unfolding each_from
each_append f k zero m = let z : k + 0 ≡ k = omega arith in let y : 0 + m ≡ m = omega arith in rw (z, y)
each_append f k (suc n) m =
    let z : k + suc n ≡ suc k + n = omega arith in
    let y : suc n + m ≡ suc (n + m) = omega arith in
    rw (z, y) (ap (λ (l : List ℕ). f k ∷ l) (each_append f (suc k) n m))

pub each_replicate : (f : ℕ → ℕ) (k n v : ℕ) → ((j : ℕ) → k ≤ j → j < k + n → f j ≡ v) → each_from f k n ≡ replicate n v
unfolding each_from
each_replicate f k zero v h = refl
each_replicate f k (suc n) v h =
    rw (h k (omega arith) (omega arith), each_replicate f (suc k) n v (λ j l m. h j (omega (arith, l)) (omega (arith, m))))

-- two lists are the same only where their elements are
pub each_equal : (f g : ℕ → ℕ) (n j : ℕ) → each_from f 0 n ≡ each_from g 0 n → j < n → f j ≡ g j
each_equal f g n j e h = sym (each_here f n j h) ∙ ap (λ (l : List ℕ). get_or l j 0) e ∙ each_here g n j h
