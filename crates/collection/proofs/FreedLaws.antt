-- Freeing a slot's descriptors: each of its places is free, every other place is as it was.
use Rattle.std.specs.Prelude.{◌≡◌, ℕ, zero, suc, ◌<◌, ◌≤◌, Bool, true, false, eqb, List, [], ◌∷◌, ◌++◌, length, get_or, take, drop}
use mathlib.Core.Path.{refl, ap}
use native.Mathlib.Omega.{arith}
use borrow.Author.Tests.{eq-eqb, ne_eqb}
use Rattle.pool.specs.Places.{clear_of, list_if}
use Rattle.collection.specs.Calls.{freed}

-- the first place is cleared or not, the others follow
first_freed : (y : ℕ) (ys : List ℕ) (D x : ℕ) → freed (y ∷ ys) (suc D) x ≡ list_if (eqb y x) (0 ∷ freed ys D x) (y ∷ freed ys D x)
unfolding freed clear_of
first_freed y ys D x = by (eqb y x) refl
  where
    by : (b : Bool) → eqb y x ≡ b
        → list_if (eqb y x) (0 ∷ clear_of x (take D ys)) (y ∷ clear_of x (take D ys)) ++ drop D ys
        ≡ list_if (eqb y x) (0 ∷ (clear_of x (take D ys) ++ drop D ys)) (y ∷ (clear_of x (take D ys) ++ drop D ys))
    by true e = rw e
    by false e = rw e

none_freed : (o : List ℕ) (x : ℕ) → freed o zero x ≡ o
unfolding freed clear_of
none_freed [] x = refl
none_freed (y ∷ ys) x = refl

empty_freed : (D x : ℕ) → freed [] D x ≡ []
unfolding freed clear_of
empty_freed zero x = refl
empty_freed (suc D) x = refl

pub freed_hit : (o : List ℕ) (D x i : ℕ) → i < D → get_or o i 0 ≡ x → get_or (freed o D x) i 0 ≡ 0
freed_hit o zero x i h e = absurd (omega arith)
freed_hit [] (suc D) x i h e = rw (empty_freed (suc D) x)
freed_hit (y ∷ ys) (suc D) x zero h e = rw (first_freed y ys D x, eq-eqb y x e)
freed_hit (y ∷ ys) (suc D) x (suc i) h e = rw (first_freed y ys D x) (by (eqb y x) (freed_hit ys D x i (omega arith) e))
  where
    by : (b : Bool) → get_or (freed ys D x) i 0 ≡ 0 → get_or (list_if b (0 ∷ freed ys D x) (y ∷ freed ys D x)) (suc i) 0 ≡ 0
    by true q = q
    by false q = q

pub freed_miss : (o : List ℕ) (D x i : ℕ) → (get_or o i 0 ≡ x → ⊥) → get_or (freed o D x) i 0 ≡ get_or o i 0
freed_miss o zero x i n = rw (none_freed o x)
freed_miss [] (suc D) x i n = rw (empty_freed (suc D) x)
freed_miss (y ∷ ys) (suc D) x zero n = rw (first_freed y ys D x, ne_eqb y x n)
freed_miss (y ∷ ys) (suc D) x (suc i) n = rw (first_freed y ys D x) (by (eqb y x) (freed_miss ys D x i n))
  where
    by : (b : Bool) → get_or (freed ys D x) i 0 ≡ get_or ys i 0 → get_or (list_if b (0 ∷ freed ys D x) (y ∷ freed ys D x)) (suc i) 0 ≡ get_or ys i 0
    by true q = q
    by false q = q

pub freed_past : (o : List ℕ) (D x i : ℕ) → D ≤ i → get_or (freed o D x) i 0 ≡ get_or o i 0
freed_past o zero x i h = rw (none_freed o x)
freed_past [] (suc D) x i h = rw (empty_freed (suc D) x)
freed_past (y ∷ ys) (suc D) x zero h = absurd (omega arith)
freed_past (y ∷ ys) (suc D) x (suc i) h = rw (first_freed y ys D x) (by (eqb y x) (freed_past ys D x i (omega arith)))
  where
    by : (b : Bool) → get_or (freed ys D x) i 0 ≡ get_or ys i 0 → get_or (list_if b (0 ∷ freed ys D x) (y ∷ freed ys D x)) (suc i) 0 ≡ get_or ys i 0
    by true q = q
    by false q = q

pub freed_length : (o : List ℕ) (D x : ℕ) → length (freed o D x) ≡ length o
freed_length o zero x = rw (none_freed o x)
freed_length [] (suc D) x = rw (empty_freed (suc D) x)
freed_length (y ∷ ys) (suc D) x = rw (first_freed y ys D x) (by (eqb y x) (freed_length ys D x))
  where
    by : (b : Bool) → length (freed ys D x) ≡ length ys → length (list_if b (0 ∷ freed ys D x) (y ∷ freed ys D x)) ≡ suc (length ys)
    by true q = ap suc q
    by false q = ap suc q

-- among the first D places they are those that `clear_of` clears
pub freed_front : (o : List ℕ) (D x : ℕ) → take D (freed o D x) ≡ clear_of x (take D o)
unfolding clear_of
freed_front o zero x = refl
freed_front [] (suc D) x = rw (empty_freed (suc D) x)
freed_front (y ∷ ys) (suc D) x = rw (first_freed y ys D x) (by (eqb y x) (freed_front ys D x))
  where
    by : (b : Bool) → take D (freed ys D x) ≡ clear_of x (take D ys)
        → take (suc D) (list_if b (0 ∷ freed ys D x) (y ∷ freed ys D x)) ≡ list_if b (0 ∷ clear_of x (take D ys)) (y ∷ clear_of x (take D ys))
    by true q = ap (λ (l : List ℕ). 0 ∷ l) q
    by false q = ap (λ (l : List ℕ). y ∷ l) q
