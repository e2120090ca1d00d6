-- Tests that are joined: what they tell one by one, and that from the left, as the code has them, they are those of a list.
use Prim.Native.Nat.{ℕ, ◌≤◌, ◌<◌}
use mathlib.Core.Path.{◌≡◌, refl, sym, ◌∙◌}
use mathlib.Core.Bool.{Bool, true, false, ◌&&◌, ◌||◌}
use mathlib.Core.List.{[], ◌∷◌}
use native.Mathlib.Omega.{arith}
use borrow.Author.Tests.{le-leb, leb-false, leb-true, lt-leb}
use lib.Dec.{leb}
use Rattle.common.specs.Tests.{every, within}

pub false_true : false ≡ true → ⊥
false_true e = let z : ◌≡◌ {A = ℕ} 0 1 = cc in omega arith

-- ---- two tests

pub both_first : (a b : Bool) → (a && b) ≡ true → a ≡ true
both_first true b e = refl
both_first false b e = e

pub both_second : (a b : Bool) → (a && b) ≡ true → b ≡ true
both_second true b e = e
both_second false b e = absurd (false_true e)

pub both_tells : (a b : Bool) → (a && b) ≡ true → (a ≡ true) × (b ≡ true)
both_tells a b e = (both_first a b e, both_second a b e)

pub both_makes : (a b : Bool) → a ≡ true → b ≡ true → (a && b) ≡ true
both_makes a b ea eb = rw (ea, eb)

pub both_true : (a : Bool) → (a && true) ≡ a
both_true true = refl
both_true false = refl

pub both_assoc : (a b c : Bool) → (a && b && c) ≡ (a && (b && c))
both_assoc true b c = refl
both_assoc false b c = refl

pub either_assoc : (a b c : Bool) → (a || b || c) ≡ (a || (b || c))
either_assoc true b c = refl
either_assoc false b c = refl

-- ---- tests on numbers

pub within_most : (x l m : ℕ) → within x l m ≡ true → x ≤ m
within_most x l m e = leb-true x m (both_second (leb l x) (leb x m) e)

pub within_least : (x l m : ℕ) → within x l m ≡ true → l ≤ x
within_least x l m e = leb-true l x (both_first (leb l x) (leb x m) e)

pub within_makes : (x l m : ℕ) → l ≤ x → x ≤ m → within x l m ≡ true
within_makes x l m hl hm = rw (le-leb l x hl, le-leb x m hm)

-- two tests that say the same of numbers are equal
pub same_test : (a b c d : ℕ) → (a ≤ b → c ≤ d) → (c ≤ d → a ≤ b) → leb a b ≡ leb c d
same_test a b c d f g = go (leb a b) refl
  where
    go : (t : Bool) → leb a b ≡ t → leb a b ≡ leb c d
    go true e = e ∙ sym (le-leb c d (f (leb-true a b e)))
    go false e = e ∙ sym (lt-leb c d (above (leb-false a b e)))
      where
        above : b < a → d < c
        above h = by (leb c d) refl
          where
            by : (t : Bool) → leb c d ≡ t → d < c
            by true q = absurd (omega (arith, g (leb-true c d q)))
            by false q = leb-false c d q

-- ---- a list of tests

pub every_2 : (a b : Bool) → (a && b) ≡ every (a ∷ b ∷ [])
every_2 a b = rw (both_true b)

pub every_3 : (a b c : Bool) → (a && b && c) ≡ every (a ∷ b ∷ c ∷ [])
every_3 a b c = both_assoc a b c ∙ rw (both_true c)

pub every_4 : (a b c d : Bool) → (a && b && c && d) ≡ every (a ∷ b ∷ c ∷ d ∷ [])
every_4 a b c d = both_assoc (a && b) c d ∙ both_assoc a b (c && d) ∙ rw (both_true d)

pub every_5 : (a b c d e : Bool) → (a && b && c && d && e) ≡ every (a ∷ b ∷ c ∷ d ∷ e ∷ [])
every_5 a b c d e =
    both_assoc (a && b && c) d e ∙ both_assoc (a && b) c (d && e) ∙ both_assoc a b (c && (d && e))
    ∙ rw (both_true e)

pub every_6 : (a b c d e f : Bool) → (a && b && c && d && e && f) ≡ every (a ∷ b ∷ c ∷ d ∷ e ∷ f ∷ [])
every_6 a b c d e f =
    both_assoc (a && b && c && d) e f ∙ both_assoc (a && b && c) d (e && f)
    ∙ both_assoc (a && b) c (d && (e && f)) ∙ both_assoc a b (c && (d && (e && f)))
    ∙ rw (both_true f)
