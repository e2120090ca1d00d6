-- Whose each place is: a slot more, and a place more.
use Rattle.std.specs.Prelude.{◌≡◌, ℕ, suc, ◌+◌, ◌-◌, ◌<◌, ◌≤◌, Bool, true, false, cond, eqb, List, length, get_or, set}
use mathlib.Core.Path.{refl, sym, ◌∙◌}
use native.Mathlib.Numerals.{add-one}
use native.Mathlib.Omega.{arith}
use borrow.Author.Tests.{eqb-false, eqb-true}
use lib.ListN.{length-set}
use lib.Seq.{ext_get_or, get_or-set_other, get_or-set_same}
use Rattle.words.specs.View.{each_from, holds_bit, owner_from}
use Rattle.words.proofs.Each.{each_here, each_length}

module _ (ws : List ℕ) where
  -- the slots before slot k do not have it
  abbrev pub NoneTo : ℕ → ℕ → Type 0
  NoneTo i k = owner_from 0 32 ws i ≡ owner_from k (32 - k) ws i

  turn : (i k : ℕ) (held : Bool) → k < 32 → held ≡ eqb (holds_bit ws k i) 1
      → owner_from k (32 - k) ws i ≡ cond held (k + 1) (owner_from (k + 1) (32 - (k + 1)) ws i)
  unfolding owner_from
  turn i k held h e =
      let left : 32 - k ≡ suc (32 - (k + 1)) = omega arith in
      rw (left, e, add-one k)

  pub owner_here : (i k : ℕ) (held : Bool) → k < 32 → NoneTo i k → held ≡ eqb (holds_bit ws k i) 1 → held ≡ true → k + 1 ≡ owner_from 0 32 ws i
  owner_here i k held h n e t = sym (n ∙ turn i k held h e ∙ rw t)

  pub owner_further : (i k : ℕ) (held : Bool) → k < 32 → NoneTo i k → held ≡ eqb (holds_bit ws k i) 1 → held ≡ false → NoneTo i (k + 1)
  owner_further i k held h n e t = n ∙ turn i k held h e ∙ rw t

  pub owner_none : (i k : ℕ) → k ≡ 32 → NoneTo i k → 0 ≡ owner_from 0 32 ws i
  unfolding owner_from
  owner_none i k e n = sym (rw e at n)

  abbrev pub RowTo : ℕ → List ℕ → Type 0
  RowTo i row = (length row ≡ 256) × ((j : ℕ) → j < i → get_or row j 0 ≡ owner_from 0 32 ws j)

  pub row_turn : (i owner : ℕ) (row : List ℕ) → i < 256 → RowTo i row → owner ≡ owner_from 0 32 ws i → RowTo (i + 1) (set row i owner)
  row_turn i owner row h r e = (length-set row i owner ∙ r.0, λ j l. by j l (eqb j i) refl)
    where
      by : (j : ℕ) → j < i + 1 → (b : Bool) → eqb j i ≡ b → get_or (set row i owner) j 0 ≡ owner_from 0 32 ws j
      by j l true q =
          let z : j ≡ i = eqb-true j i q in
          rw z (get_or-set_same row i owner 0 (omega (arith, r.0)) ∙ e)
      by j l false q =
          get_or-set_other row i j owner 0 (eqb-false j i q) ∙ r.1 j (omega (arith, eqb-false j i q))

  pub row_done : (row : List ℕ) (i : ℕ) → 256 ≤ i → RowTo i row → row ≡ each_from (owner_from 0 32 ws) 0 256
  row_done row i h r =
      ext_get_or 0 row (each_from (owner_from 0 32 ws) 0 256) (r.0 ∙ sym (each_length (owner_from 0 32 ws) 0 256))
      (λ j l. r.1 j (omega (arith, l, r.0)) ∙ sym (each_here (owner_from 0 32 ws) 256 j (omega (arith, l, r.0))))
