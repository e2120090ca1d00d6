-- The places of a set are below 256, ascending, and at most 256.
use Prim.Native.Nat.{ℕ, zero, suc, ◌+◌, ◌/◌, ◌%◌, ◌^◌, ◌≤◌, ◌<◌}
use mathlib.Core.Path.{◌≡◌, refl}
use mathlib.Core.Bool.{Bool, true, false, ◌&&◌}
use mathlib.Core.List.{List, [], ◌∷◌, ◌++◌}
use native.Mathlib.Omega.{arith}
use borrow.Author.Tests.{eqb-true, eqb-false}
use lib.Dec.{eqb}
use lib.ListN.{get_or, length, length-append}
use Rattle.bitset.specs.Words.{cons_if, places_of, Each}
use Rattle.bitset.specs.Places.{Words, set_places, none_in, Within, Ascending}
use Rattle.bitset.specs.Rest.{is_none}
use Rattle.bitset.proofs.PlaceLaws.{places_zero, places_lowest}

-- ---- what holds of each of two lists holds of each of both

pub each_append : (P : ℕ → Type 0) (l m : List ℕ) → Each P l → Each P m → Each P (l ++ m)
each_append P [] m a b = b
each_append P (p ∷ l) m a b = (a.0, each_append P l m a.1 b)

pub each_more : (P Q : ℕ → Type 0) → ((p : ℕ) → P p → Q p) → (l : List ℕ) → Each P l → Each Q l
each_more P Q f [] a = tt
each_more P Q f (p ∷ l) a = (f p a.0, each_more P Q f l a.1)

-- ---- the places of a word

pub places_from_lem : (i k x m : ℕ) → m ≤ i → Each (λ p. m ≤ p) (places_of i k x)
unfolding places_of
places_from_lem i zero x m h = tt
places_from_lem i (suc k) x m h = go (eqb (x % 2) 0) (places_from_lem (suc i) k (x / 2) m (omega arith))
  where
    go : (b : Bool) → Each (λ p. m ≤ p) (places_of (suc i) k (x / 2)) → Each (λ p. m ≤ p) (cons_if b i (places_of (suc i) k (x / 2)))
    go true e = e
    go false e = (h, e)

pub places_within : (i k x n : ℕ) → i + k ≤ n → Within n (places_of i k x)
unfolding places_of
places_within i zero x n h = tt
places_within i (suc k) x n h = go (eqb (x % 2) 0) (places_within (suc i) k (x / 2) n (omega arith))
  where
    go : (b : Bool) → Within n (places_of (suc i) k (x / 2)) → Within n (cons_if b i (places_of (suc i) k (x / 2)))
    go true e = e
    go false e = (omega arith, e)

places_ascending : (i k x : ℕ) → Ascending (places_of i k x)
unfolding places_of
places_ascending i zero x = tt
places_ascending i (suc k) x = go (eqb (x % 2) 0) (places_ascending (suc i) k (x / 2))
  where
    go : (b : Bool) → Ascending (places_of (suc i) k (x / 2)) → Ascending (cons_if b i (places_of (suc i) k (x / 2)))
    go true e = e
    go false e = (each_more (λ p. suc i ≤ p) (λ p. i < p) (λ p h. omega (arith, h)) (places_of (suc i) k (x / 2)) (places_from_lem (suc i) k (x / 2) (suc i) (omega arith)), e)

places_few : (i k x : ℕ) → length (places_of i k x) ≤ k
unfolding places_of
places_few i zero x = omega arith
places_few i (suc k) x = go (eqb (x % 2) 0) (places_few (suc i) k (x / 2))
  where
    go : (b : Bool) → length (places_of (suc i) k (x / 2)) ≤ k → length (cons_if b i (places_of (suc i) k (x / 2))) ≤ suc k
    go true e = omega arith
    go false e = omega arith

-- ---- and of four

ascending_append : (n : ℕ) (l m : List ℕ) → Ascending l → Within n l → Ascending m → Each (λ p. n ≤ p) m → Ascending (l ++ m)
ascending_append n [] m al wl am fm = am
ascending_append n (p ∷ l) m al wl am fm = (
  each_append (λ q. p < q) l m al.0 (each_more (λ q. n ≤ q) (λ q. p < q) (λ q h. omega (arith, h, wl.0)) m fm),
  ascending_append n l m al.1 wl.1 am fm,
)

module _ (w : List ℕ) where
  pub set_within : Within 256 (set_places w)
  unfolding set_places
  set_within =
      each_append (λ p. p < 256) (places_of 0 64 (get_or w 0 0)) _ (places_within 0 64 (get_or w 0 0) 256 (omega arith))
      (each_append (λ p. p < 256) (places_of 64 64 (get_or w 1 0)) _ (places_within 64 64 (get_or w 1 0) 256 (omega arith))
      (each_append (λ p. p < 256) (places_of 128 64 (get_or w 2 0)) _ (places_within 128 64 (get_or w 2 0) 256 (omega arith))
      (places_within 192 64 (get_or w 3 0) 256 (omega arith))))

  abbrev last_words : List ℕ
  last_words = places_of 128 64 (get_or w 2 0) ++ places_of 192 64 (get_or w 3 0)

  last_from : (m : ℕ) → m ≤ 128 → Each (λ p. m ≤ p) last_words
  last_from m h =
      each_append (λ p. m ≤ p) (places_of 128 64 (get_or w 2 0)) _ (places_from_lem 128 64 (get_or w 2 0) m h) (places_from_lem 192 64 (get_or w 3 0) m (omega arith))

  pub set_ascending : Ascending (set_places w)
  unfolding set_places
  set_ascending =
      ascending_append 64 (places_of 0 64 (get_or w 0 0)) (places_of 64 64 (get_or w 1 0) ++ last_words) (places_ascending 0 64 (get_or w 0 0)) (places_within 0 64 (get_or w 0 0) 64 (omega arith))
      (ascending_append 128 (places_of 64 64 (get_or w 1 0)) last_words (places_ascending 64 64 (get_or w 1 0)) (places_within 64 64 (get_or w 1 0) 128 (omega arith))
      (ascending_append 192 (places_of 128 64 (get_or w 2 0)) (places_of 192 64 (get_or w 3 0)) (places_ascending 128 64 (get_or w 2 0)) (places_within 128 64 (get_or w 2 0) 192 (omega arith))
      (places_ascending 192 64 (get_or w 3 0)) (places_from_lem 192 64 (get_or w 3 0) 192 (omega arith)))
      (last_from 128 (omega arith)))
      (each_append (λ p. 64 ≤ p) (places_of 64 64 (get_or w 1 0)) last_words (places_from_lem 64 64 (get_or w 1 0) 64 (omega arith)) (last_from 64 (omega arith)))

  pub set_few : length (set_places w) ≤ 256
  unfolding set_places
  set_few =
      simp length-append
      (omega (arith, places_few 0 64 (get_or w 0 0), places_few 64 64 (get_or w 1 0), places_few 128 64 (get_or w 2 0), places_few 192 64 (get_or w 3 0)))

-- ---- the lowest bit, and none at all

no_place_lem : (i x : ℕ) → x < 2 ^ 64 → eqb x 0 ≡ is_none (places_of i 64 x)
no_place_lem i x h = go (eqb x 0) refl
  where
    go : (b : Bool) → eqb x 0 ≡ b → b ≡ is_none (places_of i 64 x)
    go true e = rw (eqb-true x 0 e, places_zero i 64)
    go false e = rw (places_lowest i 64 x h (omega (arith, eqb-false x 0 e)))

none_append : (l m : List ℕ) → is_none (l ++ m) ≡ is_none l && is_none m
none_append [] m = refl
none_append (p ∷ l) m = refl

and_assoc : (a b c : Bool) → a && b && c ≡ a && (b && c)
and_assoc true b c = refl
and_assoc false b c = refl

-- a set is empty exactly where its list is
pub none_set : (w : List ℕ) → Words w → none_in w ≡ is_none (set_places w)
unfolding none_in set_places
none_set w f =
    rw (no_place_lem 0 (get_or w 0 0) f.first, no_place_lem 64 (get_or w 1 0) f.second, no_place_lem 128 (get_or w 2 0) f.third, no_place_lem 192 (get_or w 3 0) f.fourth)
    (simp (none_append, and_assoc))
