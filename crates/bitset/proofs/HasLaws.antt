-- A set has a place exactly where the list of its places does.
use Prim.Native.Nat.{ℕ, zero, suc, ◌+◌, ◌-◌, ◌*◌, ◌/◌, ◌%◌, ◌≤◌, ◌<◌, max}
use mathlib.Core.Path.{◌≡◌, refl, sym, ap, ◌∙◌}
use mathlib.Core.Bool.{Bool, true, false, not, ◌&&◌, ◌||◌}
use mathlib.Core.List.{List, [], ◌∷◌, ◌++◌}
use native.Mathlib.Omega.{arith}
use borrow.Author.Tests.{eqb-true, eqb-false, eq-eqb, ne_eqb, lt-ltb, le-ltb, ltb-true}
use lib.Dec.{eqb, ltb}
use lib.ListN.{get_or}
use Rattle.bitset.specs.Words.{bit, one_if, cons_if, places_of}
use Rattle.bitset.specs.Places.{set_places, all_below, without_of, with_of, has_place, among}
use Rattle.bitset.proofs.BitLaws.{bit_low, bit_half, bit_le}
use Rattle.bitset.proofs.SetLaws.{with_bit, without_bit, all_bit}

among_append : (p : ℕ) (l m : List ℕ) → among p (l ++ m) ≡ among p l || among p m
unfolding among
among_append p [] m = refl
among_append p (q ∷ l) m = go (eqb q p) (among_append p l m)
  where
    go : (b : Bool) → among p (l ++ m) ≡ among p l || among p m → b || among p (l ++ m) ≡ b || among p l || among p m
    go true e = refl
    go false e = e

-- a word has no place but its own
among_outside : (i k x p : ℕ) → ((d : ℕ) → d < k → p ≡ i + d → ⊥) → among p (places_of i k x) ≡ false
unfolding among places_of
among_outside i zero x p h = refl
among_outside i (suc k) x p h = go (eqb (x % 2) 0) (among_outside (suc i) k (x / 2) p (λ d hd e. h (suc d) (omega arith) (omega (arith, e))))
  where
    go : (b : Bool) → among p (places_of (suc i) k (x / 2)) ≡ false → among p (cons_if b i (places_of (suc i) k (x / 2))) ≡ false
    go true e = e
    go false e = rw (ne_eqb i p (λ q. h 0 (omega arith) (omega (arith, q)))) e

pub among_inside : (i k x d : ℕ) → d < k → among (i + d) (places_of i k x) ≡ eqb (bit x d) 1
unfolding among places_of
among_inside i zero x d h = absurd (omega arith)
among_inside i (suc k) x zero h = rw (bit_low x) (go (eqb (x % 2) 0) refl)
  where
    go : (b : Bool) → eqb (x % 2) 0 ≡ b → among (i + 0) (cons_if b i (places_of (suc i) k (x / 2))) ≡ eqb (x % 2) 1
    go true e = among_outside (suc i) k (x / 2) (i + 0) (λ d hd q. omega (arith, q)) ∙ sym (ne_eqb (x % 2) 1 (λ q. omega (arith, q, eqb-true (x % 2) 0 e)))
    go false e = rw (eq-eqb i (i + 0) (omega arith), eq-eqb (x % 2) 1 (omega (arith, eqb-false (x % 2) 0 e)))
among_inside i (suc k) x (suc d) h =
    let s : i + suc d ≡ suc i + d = omega arith in
    rw (s, bit_half x d) (go (eqb (x % 2) 0) ∙ among_inside (suc i) k (x / 2) d (omega arith))
  where
    go : (b : Bool) → among (suc i + d) (cons_if b i (places_of (suc i) k (x / 2))) ≡ among (suc i + d) (places_of (suc i) k (x / 2))
    go true = refl
    go false = rw (ne_eqb i (suc i + d) (λ q. omega (arith, q)))

or_nothing : (b : Bool) → b || false ≡ b
or_nothing true = refl
or_nothing false = refl

module _ (w : List ℕ) (p : ℕ) where
  abbrev in_word : ℕ → Bool
  in_word j = among p (places_of (64 * j) 64 (get_or w j 0))

  by_words : among p (set_places w) ≡ in_word 0 || (in_word 1 || (in_word 2 || in_word 3))
  unfolding set_places
  by_words = simp among_append

  -- the word of a place, and the others
  its_word : (j : ℕ) → p / 64 ≡ j → in_word j ≡ eqb (bit (get_or w j 0) (p % 64)) 1
  its_word j e =
      let s : p ≡ 64 * j + p % 64 = omega arith in
      ap (λ (q : ℕ). among q (places_of (64 * j) 64 (get_or w j 0))) s ∙ among_inside (64 * j) 64 (get_or w j 0) (p % 64) (omega arith)

  other_word : (j : ℕ) → (p / 64 ≡ j → ⊥) → in_word j ≡ false
  other_word j n = among_outside (64 * j) 64 (get_or w j 0) p (λ d hd e. n (omega (arith, e)))

  pub has_among : has_place w p ≡ among p (set_places w)
  unfolding has_place
  has_among = rw by_words (go (p / 64) refl)
    where
      here : (j : ℕ) → p / 64 ≡ j → j < 4 → ltb p 256 && eqb (bit (get_or w (p / 64) 0) (p % 64)) 1 ≡ in_word j
      here j e h = rw (lt-ltb p 256 (omega (arith, e)), e) (sym (its_word j e))

      go : (j : ℕ) → p / 64 ≡ j
          → ltb p 256 && eqb (bit (get_or w (p / 64) 0) (p % 64)) 1 ≡ in_word 0 || (in_word 1 || (in_word 2 || in_word 3))
      go zero e =
          rw (other_word 1 (λ n. omega (arith, n)), other_word 2 (λ n. omega (arith, n)), other_word 3 (λ n. omega (arith, n)))
          (here 0 e (omega arith) ∙ sym (or_nothing (in_word 0)))
      go (suc zero) e =
          rw (other_word 0 (λ n. omega (arith, n)), other_word 2 (λ n. omega (arith, n)), other_word 3 (λ n. omega (arith, n)))
          (here 1 e (omega arith) ∙ sym (or_nothing (in_word 1)))
      go (suc (suc zero)) e =
          rw (other_word 0 (λ n. omega (arith, n)), other_word 1 (λ n. omega (arith, n)), other_word 3 (λ n. omega (arith, n)))
          (here 2 e (omega arith) ∙ sym (or_nothing (in_word 2)))
      go (suc (suc (suc zero))) e =
          rw (other_word 0 (λ n. omega (arith, n)), other_word 1 (λ n. omega (arith, n)), other_word 2 (λ n. omega (arith, n)))
          (here 3 e (omega arith))
      go (suc (suc (suc (suc j)))) e =
          rw (
            other_word 0 (λ n. omega (arith, n)),
            other_word 1 (λ n. omega (arith, n)),
            other_word 2 (λ n. omega (arith, n)),
            other_word 3 (λ n. omega (arith, n)),
            le-ltb p 256 (omega (arith, e)),
          )

-- by word and bit
pub has_bit : (w : List ℕ) (j i : ℕ) → j < 4 → i < 64 → has_place w (64 * j + i) ≡ eqb (bit (get_or w j 0) i) 1
unfolding has_place
has_bit w j i h hi =
    let q : (64 * j + i) / 64 ≡ j = omega arith in
    let r : (64 * j + i) % 64 ≡ i = omega arith in
    rw (lt-ltb (64 * j + i) 256 (omega arith), q, r)

-- ---- by place: both, one without another, all below a number

join_test : (a b : ℕ) → a ≤ 1 → b ≤ 1 → eqb (max a b) 1 ≡ eqb a 1 || eqb b 1
join_test a b ha hb = go (eqb a 1) refl
  where
    go : (t : Bool) → eqb a 1 ≡ t → eqb (max a b) 1 ≡ t || eqb b 1
    go true e = eq-eqb (max a b) 1 (omega (arith, eqb-true a 1 e))
    go false e = let z : max a b ≡ b = omega (arith, eqb-false a 1 e) in rw z

less_test : (a b : ℕ) → a ≤ 1 → b ≤ 1 → eqb (a - b) 1 ≡ eqb a 1 && not (eqb b 1)
less_test a b ha hb = go (eqb b 1) refl
  where
    and_true : (t : Bool) → t ≡ t && true
    and_true true = refl
    and_true false = refl

    and-false : (t : Bool) → false ≡ t && false
    and-false true = refl
    and-false false = refl

    go : (t : Bool) → eqb b 1 ≡ t → eqb (a - b) 1 ≡ eqb a 1 && not t
    go true e = ne_eqb (a - b) 1 (λ q. omega (arith, q, eqb-true b 1 e)) ∙ and-false (eqb a 1)
    go false e = let z : a - b ≡ a = omega (arith, eqb-false b 1 e) in rw z (and_true (eqb a 1))

module _ (w x : List ℕ) (p : ℕ) where
  abbrev its_bit : List ℕ → ℕ
  its_bit v = bit (get_or v (p / 64) 0) (p % 64)

  pub has_with : has_place (with_of w x) p ≡ has_place w p || has_place x p
  unfolding has_place
  has_with = go (ltb p 256) refl
    where
      go : (t : Bool) → ltb p 256 ≡ t → t && eqb (its_bit (with_of w x)) 1 ≡ t && eqb (its_bit w) 1 || t && eqb (its_bit x) 1
      go true e =
          rw (with_bit w x (p / 64) (p % 64) (omega (arith, ltb-true p 256 e)))
          (join_test (its_bit w) (its_bit x) (bit_le (get_or w (p / 64) 0) (p % 64)) (bit_le (get_or x (p / 64) 0) (p % 64)))
      go false e = refl

  pub has_without : has_place (without_of w x) p ≡ has_place w p && not (has_place x p)
  unfolding has_place
  has_without = go (ltb p 256) refl
    where
      go : (t : Bool) → ltb p 256 ≡ t → t && eqb (its_bit (without_of w x)) 1 ≡ t && eqb (its_bit w) 1 && not (t && eqb (its_bit x) 1)
      go true e =
          rw (without_bit w x (p / 64) (p % 64) (omega (arith, ltb-true p 256 e)))
          (less_test (its_bit w) (its_bit x) (bit_le (get_or w (p / 64) 0) (p % 64)) (bit_le (get_or x (p / 64) 0) (p % 64)))
      go false e = refl

pub has_all : (n p : ℕ) → has_place (all_below n) p ≡ ltb p 256 && ltb p n
unfolding has_place
has_all n p = go (ltb p 256) refl
  where
    one : (t : Bool) → eqb (one_if t) 1 ≡ t
    one true = refl
    one false = refl

    go : (t : Bool) → ltb p 256 ≡ t → t && eqb (bit (get_or (all_below n) (p / 64) 0) (p % 64)) 1 ≡ t && ltb p n
    go true e =
        let s : 64 * (p / 64) + p % 64 ≡ p = omega arith in
        rw (all_bit n (p / 64) (p % 64) (omega (arith, ltb-true p 256 e)) (omega arith), s) (one (ltb p n))
    go false e = refl
