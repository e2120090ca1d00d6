-- A row that is filled from the front, and elements put over some of a row.
use Prim.Native.Nat.{ℕ, zero, suc, ◌+◌, ◌-◌, ◌≤◌, ◌<◌}
use mathlib.Core.Path.{◌≡◌, refl, ap, ◌∙◌}
use mathlib.Core.List.{List, [], ◌∷◌, ◌++◌, append-nil}
use native.Mathlib.Numerals.{add-one}
use native.Mathlib.Omega.{arith}
use lib.ListN.{drop, drop_of_length-le, length, replicate, set}
use lib.Seq.{drop-drop}
use borrow.Rule.Slice.PartMut.{put_mid}
use Rattle.common.specs.Rows.{put_at}

module _ {A : Type 0} where
  fill_suc : (d : List A) (i : ℕ) (v : A) → i < length d → set (replicate i v ++ drop i d) i v ≡ replicate (suc i) v ++ drop (suc i) d
  fill_suc [] i v h = absurd (omega arith)
  fill_suc (x ∷ d) zero v h = refl
  fill_suc (x ∷ d) (suc i) v h = ap (λ (l : List A). v ∷ l) (fill_suc d i v (omega arith))

  pub fill_turn : (a d : List A) (i : ℕ) (v : A) → i < length d → a ≡ replicate i v ++ drop i d → set a i v ≡ replicate (i + 1) v ++ drop (i + 1) d
  fill_turn a d i v h e = rw (e, add-one i) (fill_suc d i v h)

  pub fill_done : (a d : List A) (i : ℕ) (v : A) → length a ≡ length d → i ≤ length d → a ≡ replicate i v ++ drop i d → length a ≤ i
      → a ≡ replicate (length d) v
  fill_done a d i v l h e g =
      let all : i ≡ length d = omega arith in
      let past : length d ≤ i = omega arith in
      e ∙ rw (drop_of_length-le d past, append-nil, all)

  -- a part of a row that was lent and comes back as some elements
  pub put_done : (l w ws : List A) (a : ℕ) → w ≡ ws → put_mid a (a + length ws - a) l w ≡ put_at l a ws
  unfolding put_at
  put_done l w ws a e =
      let k : a + length ws - a ≡ length ws = omega arith in
      rw (e, k) (rw (drop-drop (length ws) a l))
