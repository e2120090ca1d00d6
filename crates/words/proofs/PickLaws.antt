-- The places that pass a test: those of a set are the ones whose bit is 1; those that a search in a row of owners finds; what marks and clears.
use Prim.Native.Nat.{ℕ, zero, suc, ◌+◌, ◌-◌, ◌*◌, ◌/◌, ◌%◌, ◌^◌, ◌≤◌, ◌<◌}
use mathlib.Core.Path.{◌≡◌, refl, sym, ap, ◌∙◌}
use mathlib.Core.Bool.{Bool, true, false, cond}
use mathlib.Core.List.{List, [], ◌∷◌, ◌++◌, append-nil}
use native.Mathlib.Omega.{arith}
use borrow.Author.Tests.{eqb-true, eqb-false, eq-eqb, ne_eqb}
use lib.Dec.{eqb}
use lib.ListN.{get_or, length, take}
use lib.Pow.{shr-shr}
use lib.Seq.{take-nil}
use Rattle.bitset.specs.Words.{bit, cons_if, places_of}
use Rattle.bitset.specs.Places.{among, set_places}
use Rattle.pool.specs.Places.{bit_of, clear_of, count_of, list_if, mark_of, places_from}
use Rattle.words.specs.View.{each_from}
use Rattle.words.proofs.EachLaws.{each_within}

-- the numbers, of m from i on, that pass
unfoldable pub picked : (ℕ → Bool) → ℕ → ℕ → List ℕ
picked f i zero = []
picked f i (suc m) = list_if (f i) (i ∷ picked f (suc i) m) (picked f (suc i) m)

pub picked_same : (f g : ℕ → Bool) (i m : ℕ) → ((j : ℕ) → i ≤ j → j < i + m → f j ≡ g j) → picked f i m ≡ picked g i m
unfolding picked
picked_same f g i zero h = refl
picked_same f g i (suc m) h =
    rw (h i (omega arith) (omega arith), picked_same f g (suc i) m (λ j l n. h j (omega (arith, l)) (omega (arith, n))))

pub picked_append : (f : ℕ → Bool) (i m n : ℕ) → picked f i (m + n) ≡ picked f i m ++ picked f (i + m) n
unfolding picked
picked_append f i zero n = let z : i + 0 ≡ i = omega arith in let y : 0 + n ≡ n = omega arith in rw (z, y)
picked_append f i (suc m) n =
    let z : i + suc m ≡ suc i + m = omega arith in
    let y : suc m + n ≡ suc (m + n) = omega arith in
    rw (z, y) (go (f i) (picked_append f (suc i) m n))
  where
    go : (b : Bool) → picked f (suc i) (m + n) ≡ picked f (suc i) m ++ picked f (suc i + m) n
        → list_if b (i ∷ picked f (suc i) (m + n)) (picked f (suc i) (m + n))
        ≡ list_if b (i ∷ picked f (suc i) m) (picked f (suc i) m) ++ picked f (suc i + m) n
    go true e = ap (λ (l : List ℕ). i ∷ l) e
    go false e = e

pub picked_none : (f : ℕ → Bool) (i m : ℕ) → ((j : ℕ) → i ≤ j → j < i + m → f j ≡ false) → picked f i m ≡ []
unfolding picked
picked_none f i zero h = refl
picked_none f i (suc m) h =
    rw (h i (omega arith) (omega arith)) (picked_none f (suc i) m (λ j l n. h j (omega (arith, l)) (omega (arith, n))))

-- where none passes from n on, there are those below n
pub picked_below : (f : ℕ → Bool) (n m : ℕ) → n ≤ m → ((j : ℕ) → n ≤ j → j < m → f j ≡ false) → picked f 0 m ≡ picked f 0 n
picked_below f n m h e =
    let s : m ≡ n + (m - n) = omega arith in
    ap (picked f 0) s ∙ picked_append f 0 n (m - n)
    ∙ ap (λ (l : List ℕ). picked f 0 n ++ l) (picked_none f (0 + n) (m - n) (λ j l k. e j (omega (arith, l)) (omega (arith, k))))
    ∙ append-nil (picked f 0 n)

-- ---- of words

word_picked : (i m x d : ℕ) → places_of (i + d) m (x / 2 ^ d) ≡ picked (λ j. eqb (bit x (j - i)) 1) (i + d) m
unfolding places_of picked bit
word_picked i zero x d = refl
word_picked i (suc m) x d =
    let z : i + d - i ≡ d = omega arith in
    let y : suc (i + d) ≡ i + suc d = omega arith in
    let q : x / 2 ^ d / 2 ≡ x / 2 ^ suc d = half in
    rw (z, q, y) (go (eqb (x / 2 ^ d % 2) 0) refl (word_picked i m x (suc d)))
  where
    half : x / 2 ^ d / 2 ≡ x / 2 ^ suc d
    half = let s : d + 1 ≡ suc d = omega arith in shr-shr x d 1 ∙ ap (λ (k : ℕ). x / 2 ^ k) s

    go : (b : Bool) → eqb (x / 2 ^ d % 2) 0 ≡ b
        → places_of (i + suc d) m (x / 2 ^ suc d) ≡ picked (λ j. eqb (bit x (j - i)) 1) (i + suc d) m
        → cons_if b (i + d) (places_of (i + suc d) m (x / 2 ^ suc d))
        ≡ list_if (eqb (x / 2 ^ d % 2) 1) ((i + d) ∷ picked (λ j. eqb (bit x (j - i)) 1) (i + suc d) m) (picked (λ j. eqb (bit x (j - i)) 1) (i + suc d) m)
    go true e r = rw (ne_eqb (x / 2 ^ d % 2) 1 (λ n. omega (arith, n, eqb-true (x / 2 ^ d % 2) 0 e))) r
    go false e r = rw (eq-eqb (x / 2 ^ d % 2) 1 (omega (arith, eqb-false (x / 2 ^ d % 2) 0 e))) (ap (λ (l : List ℕ). (i + d) ∷ l) r)

-- bit p of a set
abbrev pub place_bit : List ℕ → ℕ → ℕ
place_bit w p = bit (get_or w (p / 64) 0) (p % 64)

-- the places of word j are those of the set
part_picked : (w : List ℕ) (j : ℕ) → places_of (64 * j) 64 (get_or w j 0) ≡ picked (λ p. eqb (place_bit w p) 1) (64 * j) 64
part_picked w j =
    let z : 64 * j + 0 ≡ 64 * j = omega arith in
    let o : get_or w j 0 / 2 ^ 0 ≡ get_or w j 0 = omega arith in
    rw (z, o) at (word_picked (64 * j) 64 (get_or w j 0) 0)
    ∙ picked_same (λ p. eqb (bit (get_or w j 0) (p - 64 * j)) 1) (λ p. eqb (place_bit w p) 1) (64 * j) 64
    (λ p l h.
    let q : p / 64 ≡ j = omega (arith, l, h) in
    let m : p % 64 ≡ p - 64 * j = omega (arith, l, h) in
    rw (q, m))

pub set_picked : (w : List ℕ) → set_places w ≡ picked (λ p. eqb (place_bit w p) 1) 0 256
unfolding set_places
set_picked w =
    rw (part_picked w 0, part_picked w 1, part_picked w 2, part_picked w 3)
    (rw (← picked_append f 128 64 64) (rw (← picked_append f 64 64 128) (rw (← picked_append f 0 64 192))))
  where
    f : ℕ → Bool
    f p = eqb (place_bit w p) 1

-- ---- of a row of owners

pub search_picked : (f : ℕ → ℕ) (i m x n : ℕ) → places_from i (each_from f i m) x n ≡ take n (picked (λ j. eqb (f j) x) i m)
unfolding places_from each_from picked
search_picked f i zero x n = sym (take-nil n)
search_picked f i (suc m) x n = go n (eqb (f i) x) (λ k. search_picked f (suc i) m x k)
  where
    go : (k : ℕ) (b : Bool) → ((k : ℕ) → places_from (suc i) (each_from f (suc i) m) x k ≡ take k (picked (λ j. eqb (f j) x) (suc i) m))
        → list_if (eqb k 0) [] (list_if b (i ∷ places_from (suc i) (each_from f (suc i) m) x (k - 1)) (places_from (suc i) (each_from f (suc i) m) x k))
        ≡ take k (list_if b (i ∷ picked (λ j. eqb (f j) x) (suc i) m) (picked (λ j. eqb (f j) x) (suc i) m))
    go zero b r = refl
    go (suc k) true r =
        let z : suc k - 1 ≡ k = omega arith in
        rw (ne_eqb (suc k) 0 (λ e. omega (arith, e)), z) (ap (λ (l : List ℕ). i ∷ l) (r k))
    go (suc k) false r = rw (ne_eqb (suc k) 0 (λ e. omega (arith, e))) (r (suc k))

pub count_picked : (f : ℕ → ℕ) (i m x : ℕ) → count_of x (each_from f i m) ≡ length (picked (λ j. eqb (f j) x) i m)
unfolding count_of each_from picked
count_picked f i zero x = refl
count_picked f i (suc m) x = go (eqb (f i) x) (count_picked f (suc i) m x)
  where
    go : (b : Bool) → count_of x (each_from f (suc i) m) ≡ length (picked (λ j. eqb (f j) x) (suc i) m)
        → bit_of b + count_of x (each_from f (suc i) m) ≡ length (list_if b (i ∷ picked (λ j. eqb (f j) x) (suc i) m) (picked (λ j. eqb (f j) x) (suc i) m))
    go true e = omega (arith, e)
    go false e = omega (arith, e)

pub clear_each : (f : ℕ → ℕ) (i m x : ℕ) → clear_of x (each_from f i m) ≡ each_from (λ j. cond (eqb (f j) x) 0 (f j)) i m
unfolding clear_of each_from
clear_each f i zero x = refl
clear_each f i (suc m) x = go (eqb (f i) x) (clear_each f (suc i) m x)
  where
    go : (b : Bool) → clear_of x (each_from f (suc i) m) ≡ each_from (λ j. cond (eqb (f j) x) 0 (f j)) (suc i) m
        → list_if b (0 ∷ clear_of x (each_from f (suc i) m)) (f i ∷ clear_of x (each_from f (suc i) m))
        ≡ cond b 0 (f i) ∷ each_from (λ j. cond (eqb (f j) x) 0 (f j)) (suc i) m
    go true e = ap (λ (l : List ℕ). 0 ∷ l) e
    go false e = ap (λ (l : List ℕ). f i ∷ l) e

-- ---- the lowest n free places marked

-- a place before the first is not among them
among_before : (f : ℕ → Bool) (i m n p : ℕ) → p < i → among p (take n (picked f i m)) ≡ false
unfolding among picked
among_before f i zero n p h = ap (among p) (take-nil n)
among_before f i (suc m) n p h = go (f i) n (λ k. among_before f (suc i) m k p (omega arith))
  where
    go : (b : Bool) (k : ℕ) → ((k : ℕ) → among p (take k (picked f (suc i) m)) ≡ false)
        → among p (take k (list_if b (i ∷ picked f (suc i) m) (picked f (suc i) m))) ≡ false
    go true zero r = refl
    go true (suc k) r = rw (ne_eqb i p (λ e. omega (arith, e))) (r k)
    go false k r = r k

-- what becomes of place j
abbrev pub marked_at : (ℕ → ℕ) → ℕ → ℕ → ℕ → ℕ → ℕ → ℕ
marked_at f i m n x j = cond (among j (take n (picked (λ k. eqb (f k) 0) i m))) x (f j)

pub mark_each : (f : ℕ → ℕ) (i m n x : ℕ) → mark_of (each_from f i m) n x ≡ each_from (marked_at f i m n x) i m
unfolding mark_of each_from picked among
mark_each f i zero n x = refl
mark_each f i (suc m) n x = go n (eqb (f i) 0) refl (λ k. mark_each f (suc i) m k x)
  where
    z : ℕ → Bool
    z k = eqb (f k) 0

    go : (k : ℕ) (b : Bool) → eqb (f i) 0 ≡ b → ((k : ℕ) → mark_of (each_from f (suc i) m) k x ≡ each_from (marked_at f (suc i) m k x) (suc i) m)
        → list_if (eqb k 0) (f i ∷ each_from f (suc i) m) (list_if b (x ∷ mark_of (each_from f (suc i) m) (k - 1) x) (f i ∷ mark_of (each_from f (suc i) m) k x))
        ≡ each_from (λ j. cond (among j (take k (list_if b (i ∷ picked z (suc i) m) (picked z (suc i) m)))) x (f j)) i (suc m)
    go zero b e r = refl
    go (suc k) true e r =
        let o : suc k - 1 ≡ k = omega arith in
        rw (ne_eqb (suc k) 0 (λ q. omega (arith, q)), o, r k, eq-eqb i i refl)
        (ap (λ (l : List ℕ). x ∷ l)
        (each_within (marked_at f (suc i) m k x) (λ j. cond (among j (i ∷ take k (picked z (suc i) m))) x (f j)) (suc i) m
        (λ j l h. rw (ne_eqb i j (λ q. omega (arith, q, l))))))
    go (suc k) false e r =
        rw (ne_eqb (suc k) 0 (λ q. omega (arith, q)), r (suc k), among_before z (suc i) m (suc k) i (omega arith))
