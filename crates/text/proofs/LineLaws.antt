-- Lines put one after the other: a turn of a loop, a line that may be left out, and how long they are.
use Prim.Native.Nat.{ℕ, zero, suc, ◌+◌, ◌*◌, ◌≤◌, ◌<◌}
use mathlib.Core.Bool.{Bool, true, false}
use mathlib.Core.Path.{◌≡◌, refl}
use mathlib.Core.List.{List, [], ◌∷◌, ◌++◌}
use native.Mathlib.Nat.{mul-suc}
use native.Mathlib.Numerals.{add-one}
use native.Mathlib.Omega.{arith}
use lib.ListN.{get_or, length, length-append}
use Rattle.common.specs.Rows.{put_at}
use Rattle.text.specs.Text.{lines_to, only_if}
use Rattle.text.proofs.Puts.{put_none, put_then}

-- ---- a loop that puts what is said of 0, 1, ..

pub lines_none : (f : ℕ → List ℕ) (o : List ℕ) (at : ℕ) → (o ≡ put_at o at (lines_to f 0)) × (at ≡ at + length (lines_to f 0))
unfolding lines_to
lines_none f o at = (put_none o at, omega arith)

lines_suc : (f : ℕ → List ℕ) (i : ℕ) → lines_to f (suc i) ≡ lines_to f i ++ f i
unfolding lines_to
lines_suc f i = refl

pub lines_turn : (f : ℕ → List ℕ) (o p q : List ℕ) (at place r i : ℕ) → at ≤ length o
    → p ≡ put_at o at (lines_to f i) → place ≡ at + length (lines_to f i) → q ≡ put_at p place (f i) → r ≡ place + length (f i)
    → (q ≡ put_at o at (lines_to f (i + 1))) × (r ≡ at + length (lines_to f (i + 1)))
lines_turn f o p q at place r i h e l g m = rw (add-one i, lines_suc f i) (put_then o p q (lines_to f i) (f i) at place r h e l g m)

pub lines_most : (f : ℕ → List ℕ) (m : ℕ) → ((i : ℕ) → length (f i) ≤ m) → (n : ℕ) → length (lines_to f n) ≤ m * n
unfolding lines_to
lines_most f m h zero = omega arith
lines_most f m h (suc n) =
    let more : m * suc n ≡ m * n + m = mul-suc m n in
    rw more (simp length-append (omega (arith, h n, lines_most f m h n)))

-- ---- what may be left out

module _ (o : List ℕ) (at : ℕ) (t : Bool) (l : List ℕ) where
  pub hidden : t ≡ false → (o ≡ put_at o at (only_if t l)) × (at ≡ at + length (only_if t l))
  hidden e = rw e (put_none o at, omega arith)

  pub shown : (p : List ℕ) (r : ℕ) → t ≡ true → p ≡ put_at o at l → r ≡ at + length l
      → (p ≡ put_at o at (only_if t l)) × (r ≡ at + length (only_if t l))
  shown p r e f m = rw e (f, m)

pub only_most : (t : Bool) (l : List ℕ) (m : ℕ) → length l ≤ m → length (only_if t l) ≤ m
only_most true l m h = h
only_most false l m h = omega arith

-- an element that is there is the same by any default
pub get_d_any : {A : Type 0} (l : List A) (i : ℕ) (d e : A) → i < length l → get_or l i d ≡ get_or l i e
get_d_any [] i d e h = absurd (omega (arith, h))
get_d_any (x ∷ l) zero d e h = refl
get_d_any (x ∷ l) (suc i) d e h = get_d_any l i d e (omega (arith, h))
