-- A cursor goes through the places of its set: what it has still to come, at each step and at its end.
use Prim.Native.Nat.{ℕ, zero, suc, ◌+◌, ◌-◌, ◌*◌, ◌/◌, ◌%◌, ◌^◌, ◌≤◌, ◌<◌}
use mathlib.Core.Path.{◌≡◌, refl, sym, ap, ◌∙◌}
use mathlib.Core.Bool.{Bool, true, false, cond, ◌&&◌}
use mathlib.Core.List.{List, [], ◌∷◌, ◌++◌, append-nil}
use native.Mathlib.Omega.{arith}
use borrow.Author.Tests.{eqb-true, eqb-false, eq-eqb, ne_eqb, le-leb, lt-leb}
use lib.Bits.{bit_and, and_le_l}
use lib.Count.{count_trailing_zeros, under}
use lib.Dec.{eqb, leb}
use lib.ListN.{get_or, length, drop}
use Rattle.bitset.specs.declared.cursor.Cursor.{Cursor}
use Rattle.bitset.specs.Words.{cons_if, places_of}
use Rattle.bitset.specs.Places.{set_places}
use Rattle.bitset.specs.Rest.{later_of, later_in, unless_none, rest_of, coming_of, next_of, settled_from, settled_of, with_word, advance_of, place_at, is_none, tail_of}
use Rattle.bitset.proofs.PlaceLaws.{places_zero, places_lowest}

-- ---- words that have no place

later_zero : (base : ℕ) (xs : List ℕ) → later_of base (xs ++ (0 ∷ [])) ≡ later_of base xs
unfolding later_of
later_zero base [] = rw (places_zero (base + 64) 64) (same (leb base 128))
  where
    same : (b : Bool) → cond b (◌++◌ {A = ℕ} [] []) [] ≡ []
    same true = refl
    same false = refl
later_zero base (x ∷ xs) = rw (later_zero (base + 64) xs)

-- the next word's places are those to come after this one's
pub coming_next : (c : Cursor) → c.base ≤ 128 → c.word ≡ 0 → coming_of (next_of c) ≡ coming_of c
unfolding coming_of next_of later_of
coming_next c h e =
    rw (e, places_zero c.base 64, le-leb c.base 128 h)
    (ap (λ (l : List ℕ). places_of (c.base + 64) 64 c.second ++ l) (later_zero (c.base + 64) (c.third ∷ c.fourth ∷ [])))

pub coming_none : (c : Cursor) → 128 < c.base → c.word ≡ 0 → rest_of c ≡ coming_of c
unfolding coming_of rest_of later_of
coming_none c h e = rw (e, places_zero c.base 64, lt-leb c.base 128 h)

-- ---- a word that has a place

first_place_lem : (c : Cursor) → c.word < 2 ^ 64 → (c.word ≡ 0 → ⊥)
    → places_of c.base 64 c.word ≡ place_at c ∷ places_of c.base 64 (bit_and c.word (c.word - 1))
unfolding place_at
first_place_lem c f z = places_lowest c.base 64 c.word f (omega (arith, z))

pub coming_here : (c : Cursor) → c.word < 2 ^ 64 → (c.word ≡ 0 → ⊥) → rest_of c ≡ coming_of c
unfolding rest_of coming_of
coming_here c f z = rw (first_place_lem c f z)

-- ---- the end

pub rest_none : (c : Cursor) → c.word ≡ 0 → rest_of c ≡ []
unfolding rest_of
rest_none c e = rw (e, places_zero c.base 64)

some_place : (c : Cursor) → c.word < 2 ^ 64 → (c.word ≡ 0 → ⊥) → is_none (rest_of c) ≡ false
unfolding rest_of
some_place c f z = rw (first_place_lem c f z)

pub end_test : (c : Cursor) → c.word < 2 ^ 64 → eqb c.word 0 ≡ is_none (rest_of c)
end_test c f = go (eqb c.word 0) refl
  where
    go : (b : Bool) → eqb c.word 0 ≡ b → b ≡ is_none (rest_of c)
    go true e = rw (rest_none c (eqb-true c.word 0 e))
    go false e = sym (some_place c f (eqb-false c.word 0 e))

-- ---- settling

not_last : (b : Bool) → b && false ≡ false
not_last true = refl
not_last false = refl

-- from so far on a further word changes nothing
enough : (k : ℕ) (c : Cursor) → 128 < c.base + 64 * k → settled_from (suc k) c ≡ settled_from k c
unfolding settled_from next_of
enough zero c h = rw (lt-leb c.base 128 (omega arith), not_last (eqb c.word 0))
enough (suc k) c h = rw (enough k (next_of c) (omega arith))

pub settled_next : (c : Cursor) → c.base ≤ 128 → c.word ≡ 0 → settled_of (next_of c) ≡ settled_of c
unfolding settled_from next_of
settled_next c h e = enough 2 (next_of c) (omega arith) ∙ sym (rw (eq-eqb c.word 0 e, le-leb c.base 128 h))

pub settled_none : (c : Cursor) → 128 < c.base → settled_of c ≡ c
unfolding settled_from
settled_none c h = rw (lt-leb c.base 128 h, not_last (eqb c.word 0))

pub settled_here : (c : Cursor) → (c.word ≡ 0 → ⊥) → settled_of c ≡ c
unfolding settled_from
settled_here c z = rw (ne_eqb c.word 0 z)

-- ---- a step

pub stays : (c : Cursor) → c.word ≡ 0 → (c ≡ advance_of c) × (rest_of c ≡ tail_of (rest_of c))
unfolding advance_of
stays c e = (rw (eq-eqb c.word 0 e), rw (rest_none c e))

module _ (c : Cursor) (rest : ℕ) (f : c.word < 2 ^ 64) (z : c.word ≡ 0 → ⊥) (e : rest ≡ bit_and c.word (c.word - 1)) where
  step_coming : coming_of (with_word c rest) ≡ tail_of (rest_of c)
  unfolding coming_of rest_of
  step_coming = rw (first_place_lem c f z, e)

  step_advance : settled_of (with_word c rest) ≡ advance_of c
  unfolding advance_of
  step_advance = rw (ne_eqb c.word 0 z, e)

  pub step_here : (rest ≡ 0 → ⊥) → (with_word c rest ≡ advance_of c) × (rest_of (with_word c rest) ≡ tail_of (rest_of c))
  step_here y = (
    sym (settled_here (with_word c rest) y) ∙ step_advance,
    coming_here (with_word c rest) (omega (arith, e, and_le_l c.word (c.word - 1))) y ∙ step_coming,
  )

  pub step_on : (r : Cursor) → r ≡ settled_of (with_word c rest) → rest_of r ≡ coming_of (with_word c rest)
      → (r ≡ advance_of c) × (rest_of r ≡ tail_of (rest_of c))
  step_on r a b = (a ∙ step_advance, b ∙ step_coming)

-- ---- the start

pub coming_all : (w : List ℕ)
    → coming_of (record { base = 0; word = get_or w 0 0; second = get_or w 1 0; third = get_or w 2 0; fourth = get_or w 3 0 }) ≡ set_places w
unfolding coming_of set_places later_of
coming_all w = rw (append-nil (places_of 192 64 (get_or w 3 0)))

-- ---- what a caller knows of the cursor by its places alone

trailing_first : (i k x p : ℕ) (ps : List ℕ) → places_of i k x ≡ p ∷ ps → i + count_trailing_zeros k x ≡ p
unfolding places_of count_trailing_zeros
trailing_first i zero x p ps e = absurd (let z : ◌≡◌ {A = ℕ} 0 1 = cc in omega arith)
trailing_first i (suc k) x p ps e = go (eqb (x % 2) 0) refl e (trailing_first (suc i) k (x / 2) p ps)
  where
    go : (b : Bool) → eqb (x % 2) 0 ≡ b → cons_if b i (places_of (suc i) k (x / 2)) ≡ p ∷ ps
        → (places_of (suc i) k (x / 2) ≡ p ∷ ps → suc i + count_trailing_zeros k (x / 2) ≡ p) → i + under (x % 2) (count_trailing_zeros k (x / 2)) ≡ p
    go true t q rest = rw (eqb-true (x % 2) 0 t) (omega (arith, rest q))
    go false t q rest =
        let odd : x % 2 ≡ 1 = omega (arith, eqb-false (x % 2) 0 t) in
        let first : i ≡ p = cc in
        rw odd (omega (arith, first))

-- it stands at the first of the places to come
pub place_first : (c : Cursor) (p : ℕ) (ps : List ℕ) → rest_of c ≡ p ∷ ps → place_at c ≡ p
unfolding rest_of place_at
place_first c p ps e = go (places_of c.base 64 c.word) refl e
  where
    go : (l : List ℕ) → places_of c.base 64 c.word ≡ l → unless_none l (later_in c) ≡ p ∷ ps → c.base + count_trailing_zeros 64 c.word ≡ p
    go [] f q = absurd (let z : ◌≡◌ {A = ℕ} 0 1 = cc in omega arith)
    go (r ∷ rs) f q =
        let first : r ≡ p = cc in
        trailing_first c.base 64 c.word r rs f ∙ first

list_step : (l : List ℕ) → is_none l ≡ false → (p : ℕ) × (l ≡ p ∷ tail_of l)
list_step [] e = absurd (let z : ◌≡◌ {A = ℕ} 0 1 = cc in omega arith)
list_step (p ∷ ps) e = (p, refl)

pub rest_step : (c : Cursor) → is_none (rest_of c) ≡ false → rest_of c ≡ place_at c ∷ tail_of (rest_of c)
rest_step c e =
    let s : (p : ℕ) × (rest_of c ≡ p ∷ tail_of (rest_of c)) = list_step (rest_of c) e in
    s.1 ∙ ap (λ (p : ℕ). p ∷ tail_of (rest_of c)) (sym (place_first c s.0 (tail_of (rest_of c)) s.1))

pub rest_end : (c : Cursor) → is_none (rest_of c) ≡ true → rest_of c ≡ []
rest_end c e = go (rest_of c) e
  where
    go : (l : List ℕ) → is_none l ≡ true → l ≡ []
    go [] q = refl
    go (p ∷ ps) q = absurd (let z : ◌≡◌ {A = ℕ} 0 1 = cc in omega arith)

-- each step leaves fewer
pub rest_less : (c : Cursor) → is_none (rest_of c) ≡ false → length (tail_of (rest_of c)) < length (rest_of c)
rest_less c e = omega (arith, ap length (rest_step c e))

-- a cursor that has gone k steps has the first k places behind it
pub rest_drop : (l m : List ℕ) (k : ℕ) → m ≡ drop k l → tail_of m ≡ drop (suc k) l
rest_drop l m k e = ap tail_of e ∙ go l k
  where
    go : (r : List ℕ) (j : ℕ) → tail_of (drop j r) ≡ drop (suc j) r
    go [] zero = refl
    go [] (suc j) = refl
    go (x ∷ r) zero = refl
    go (x ∷ r) (suc j) = go r j
