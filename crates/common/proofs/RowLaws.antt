-- Words put over a row: the row is as before but for them.
use Prim.Native.Nat.{ℕ, ◌+◌, ◌-◌, ◌≤◌, ◌<◌}
use mathlib.Core.Path.{◌≡◌, refl, sym, ap, ◌∙◌}
use mathlib.Core.List.{List, ◌++◌}
use native.Mathlib.Omega.{arith}
use lib.ListN.{drop, get_or, length, length-append, length-drop, length-set, get_or-append, set, take}
use lib.Seq.{get_or-append-add, get_or-drop, get_or-set_other, get_or-take, length-take-le}
use Rattle.common.specs.Rows.{put_at}

-- a row that is as another but for n words from a place on
pub record Only (at n : ℕ) (old new : List ℕ) : Type 0 where
  pub same_length : length new ≡ length old
  pub before : (i : ℕ) → i < at → get_or new i 0 ≡ get_or old i 0
  pub behind : (i : ℕ) → at + n ≤ i → get_or new i 0 ≡ get_or old i 0

module _ (row : List ℕ) (at : ℕ) (ws : List ℕ) (h : at + length ws ≤ length row) where
  rest : List ℕ
  rest = drop (at + length ws) row

  front : length (take at row) ≡ at
  front = length-take-le at row (omega arith)

  pub put_length : length (put_at row at ws) ≡ length row
  unfolding put_at rest
  put_length =
      omega (
        arith,
        length-append (take at row) (ws ++ rest),
        length-append ws rest,
        length-drop (at + length ws) row,
        front,
      )

  pub put_before : (i : ℕ) → i < at → get_or (put_at row at ws) i 0 ≡ get_or row i 0
  unfolding put_at rest
  put_before i lt = get_or-append (take at row) (ws ++ rest) 0 i (omega (arith, front)) ∙ get_or-take at row i 0 lt

  put_from : (i : ℕ) → get_or (put_at row at ws) (at + i) 0 ≡ get_or (ws ++ rest) i 0
  unfolding put_at rest
  put_from i =
      ap (λ (n : ℕ). get_or (put_at row at ws) (n + i) 0) (sym front) ∙ get_or-append-add (take at row) (ws ++ rest) i 0

  pub put_inside : (i : ℕ) → i < length ws → get_or (put_at row at ws) (at + i) 0 ≡ get_or ws i 0
  put_inside i lt = put_from i ∙ get_or-append ws rest 0 i lt

  pub put_behind : (i : ℕ) → at + length ws ≤ i → get_or (put_at row at ws) i 0 ≡ get_or row i 0
  unfolding rest
  put_behind i le =
      let j : ℕ = i - (at + length ws) in
      let here : at + (length ws + j) ≡ i = omega arith in
      let there : at + length ws + j ≡ i = omega arith in
      ap (λ (n : ℕ). get_or (put_at row at ws) n 0) (sym here) ∙ put_from (length ws + j) ∙ get_or-append-add ws rest j 0
      ∙ get_or-drop (at + length ws) row j 0 ∙ ap (λ (n : ℕ). get_or row n 0) there

  pub put_only : Only at (length ws) row (put_at row at ws)
  put_only = record { same_length = put_length; before = put_before; behind = put_behind }

pub set_only : (row : List ℕ) (at w : ℕ) → Only at 1 row (set row at w)
set_only row at w =
    record {
      same_length = length-set row at w;
      before = λ i lt. get_or-set_other row at i w 0 (λ e. omega arith);
      behind = λ i le. get_or-set_other row at i w 0 (λ e. omega arith);
    }

pub only_all : (at n : ℕ) (row : List ℕ) → Only at n row row
only_all at n row = record { same_length = refl; before = λ i lt. refl; behind = λ i le. refl }
