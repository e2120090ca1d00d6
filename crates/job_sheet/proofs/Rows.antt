-- A row of things one more, and tests that are joined on the way.
use mathlib.Core.Path.{◌≡◌, refl, sym, ◌∙◌}
use mathlib.Core.Bool.{Bool, true, false}
use mathlib.Core.List.{List, [], ◌∷◌, ◌++◌}
use Prim.Native.Nat.{ℕ, zero, suc, ◌+◌, ◌<◌}
use native.Mathlib.Numerals.{add-one}
use native.Mathlib.Omega.{arith}
use borrow.Author.Tests.{ltb-false, ltb-true}
use Rattle.common.proofs.TestLaws.{both_makes, both_tells, false_true}
use lib.Dec.{ltb}
use lib.ListN.{get_or-append, get_or, length, length-append}
use lib.Seq.{ext_get_or, get_or_at}
use Rattle.job_sheet.specs.Reading.{every, up_to}

module _ {A : Type 0} where
  pub up_length : (f : ℕ → A) (n : ℕ) → length (up_to f n) ≡ n
  unfolding up_to
  up_length f zero = refl
  up_length f (suc n) = length-append (up_to f n) (f n ∷ []) ∙ rw (up_length f n) (add-one n)

  pub up_at : (f : ℕ → A) (n i : ℕ) (d : A) → i < n → get_or (up_to f n) i d ≡ f i
  unfolding up_to
  up_at f zero i d h = absurd (omega (arith, h))
  up_at f (suc n) i d h = go (ltb i n) refl (up_at f n i d)
    where
      go : (b : Bool) → ltb i n ≡ b → (i < n → get_or (up_to f n) i d ≡ f i) → get_or (up_to f n ++ (f n ∷ [])) i d ≡ f i
      go true e rec =
          let l : i < length (up_to f n) = omega (arith, ltb-true i n e, up_length f n) in
          get_or-append (up_to f n) (f n ∷ []) d i l ∙ rec (ltb-true i n e)
      go false e rec =
          let last : i ≡ n = omega (arith, h, ltb-false i n e) in
          rw last (get_or_at (up_to f n) (f n) [] d n (up_length f n))

  -- a row that agrees with a list at each place is that list
  pub up_is : (f : ℕ → A) (d : A) (xs : List A) → ((i : ℕ) → i < length xs → f i ≡ get_or xs i d) → up_to f (length xs) ≡ xs
  up_is f d xs h =
      ext_get_or d (up_to f (length xs)) xs (up_length f (length xs))
      (λ i l. let h' : i < length xs = omega (arith, l, up_length f (length xs)) in up_at f (length xs) i d h' ∙ h i h')

  pub up_more : (f : ℕ → A) (i : ℕ) → up_to f (i + 1) ≡ up_to f i ++ (f i ∷ [])
  unfolding up_to
  up_more f i = rw (add-one i)

pub every_more : (f : ℕ → Bool) (i : ℕ) → every f i ≡ true → f i ≡ true → every f (i + 1) ≡ true
unfolding every
every_more f i e q = rw (add-one i, e, q)

pub every_all : (f : ℕ → Bool) (n : ℕ) → ((i : ℕ) → i < n → f i ≡ true) → every f n ≡ true
unfolding every
every_all f zero h = refl
every_all f (suc n) h = both_makes (every f n) (f n) (every_all f n (λ i l. h i (omega (arith, l)))) (h n (omega arith))

pub every_each : (f : ℕ → Bool) (n i : ℕ) → every f n ≡ true → i < n → f i ≡ true
unfolding every
every_each f zero i e h = absurd (omega (arith, h))
every_each f (suc n) i e h = go (ltb i n) refl (both_tells (every f n) (f n) e) (every_each f n i)
  where
    go : (b : Bool) → ltb i n ≡ b → (every f n ≡ true) × (f n ≡ true) → (every f n ≡ true → i < n → f i ≡ true) → f i ≡ true
    go true q t rec = rec t.0 (ltb-true i n q)
    go false q t rec =
        let last : i ≡ n = omega (arith, h, ltb-false i n q) in
        rw last t.1

pub every_not : (f : ℕ → Bool) (n i : ℕ) → i < n → f i ≡ false → every f n ≡ false
every_not f n i h e = by (every f n) refl
  where
    by : (b : Bool) → every f n ≡ b → every f n ≡ false
    by true q = absurd (false_true (sym e ∙ every_each f n i q h))
    by false q = q
