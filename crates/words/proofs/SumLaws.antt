-- How many slots of a row hold a place: none, one that is known, and what a change of one slot's words makes of it.
use Prim.Native.Nat.{ℕ, zero, suc, ◌+◌, ◌/◌, ◌%◌, ◌≤◌, ◌<◌}
use mathlib.Core.Path.{◌≡◌, refl, sym, ap, ◌∙◌}
use mathlib.Core.Logic.{◌≢◌}
use mathlib.Core.Bool.{Bool, true, false, cond}
use mathlib.Core.List.{List}
use native.Mathlib.Omega.{arith}
use borrow.Author.Tests.{eqb-true, eqb-false}
use lib.Dec.{eqb}
use Rattle.bitset.specs.Judge.{sum_bit}
use Rattle.bitset.specs.Words.{bit}
use Rattle.words.specs.Good.{column}
use Rattle.words.specs.Record.{part_at}
use Rattle.words.specs.View.{holds_bit, owner_from}

-- ---- one column

module _ (ws : List ℕ) (j i : ℕ) where
  abbrev pub slot_bit : ℕ → ℕ
  slot_bit l = bit (part_at ws l j) i

  abbrev pub slot_sum : ℕ → ℕ → ℕ
  slot_sum k n = sum_bit i (column ws j k n)

  pub sum_has : (k n l : ℕ) → k ≤ l → l < k + n → slot_bit l ≤ slot_sum k n
  unfolding sum_bit column
  sum_has k zero l h m = absurd (omega arith)
  sum_has k (suc n) l h m = go (eqb l k) refl (λ q. sum_has (suc k) n l q (omega arith))
    where
      go : (b : Bool) → eqb l k ≡ b → (suc k ≤ l → slot_bit l ≤ slot_sum (suc k) n) → slot_bit l ≤ slot_bit k + slot_sum (suc k) n
      go true e r = rw (eqb-true l k e) (omega arith)
      go false e r = omega (arith, r (omega (arith, eqb-false l k e)))

  pub sum_two : (k n l m : ℕ) → k ≤ l → l < m → m < k + n → slot_bit l + slot_bit m ≤ slot_sum k n
  unfolding sum_bit column
  sum_two k zero l m h o q = absurd (omega arith)
  sum_two k (suc n) l m h o q = go (eqb l k) refl (λ r. sum_two (suc k) n l m r o (omega arith))
    where
      go : (b : Bool) → eqb l k ≡ b → (suc k ≤ l → slot_bit l + slot_bit m ≤ slot_sum (suc k) n) → slot_bit l + slot_bit m ≤ slot_bit k + slot_sum (suc k) n
      go true e r = rw (eqb-true l k e) (omega (arith, sum_has (suc k) n m (omega (arith, eqb-true l k e)) (omega arith)))
      go false e r = omega (arith, r (omega (arith, eqb-false l k e)))

  pub sum_none : (k n : ℕ) → ((l : ℕ) → k ≤ l → l < k + n → slot_bit l ≡ 0) → slot_sum k n ≡ 0
  unfolding sum_bit column
  sum_none k zero h = refl
  sum_none k (suc n) h =
      omega (arith, h k (omega arith) (omega arith), sum_none (suc k) n (λ l a b. h l (omega (arith, a)) (omega (arith, b))))

-- ---- two rows

module _ (ws ws' : List ℕ) (j i : ℕ) where
  pub sum_same : (k n : ℕ) → ((l : ℕ) → k ≤ l → l < k + n → slot_bit ws' j i l ≡ slot_bit ws j i l) → slot_sum ws' j i k n ≡ slot_sum ws j i k n
  unfolding sum_bit column
  sum_same k zero h = refl
  sum_same k (suc n) h =
      omega (arith, h k (omega arith) (omega arith), sum_same (suc k) n (λ l a b. h l (omega (arith, a)) (omega (arith, b))))

  -- where only slot m may differ
  pub sum_changed : (m k n : ℕ) → k ≤ m → m < k + n → ((l : ℕ) → l ≢ m → slot_bit ws' j i l ≡ slot_bit ws j i l)
      → slot_sum ws' j i k n + slot_bit ws j i m ≡ slot_sum ws j i k n + slot_bit ws' j i m
  unfolding sum_bit column
  sum_changed m k zero a b h = absurd (omega arith)
  sum_changed m k (suc n) a b h = go (eqb m k) refl (λ q. sum_changed m (suc k) n q (omega arith) h)
    where
      go : (t : Bool) → eqb m k ≡ t
          → (suc k ≤ m → slot_sum ws' j i (suc k) n + slot_bit ws j i m ≡ slot_sum ws j i (suc k) n + slot_bit ws' j i m)
          → slot_bit ws' j i k + slot_sum ws' j i (suc k) n + slot_bit ws j i m ≡ slot_bit ws j i k + slot_sum ws j i (suc k) n + slot_bit ws' j i m
      go true e r =
          rw (eqb-true m k e)
          (omega (arith, sum_same (suc k) n (λ l c d. h l (λ q. omega (arith, q, c, eqb-true m k e)))))
      go false e r = omega (arith, r (omega (arith, eqb-false m k e)), h k (λ q. eqb-false m k e (sym q)))

-- ---- the owner of a place

module _ (ws : List ℕ) (i : ℕ) where
  pub holds_bit_lem : (k : ℕ) → holds_bit ws k i ≡ slot_bit ws (i / 64) (i % 64) k
  unfolding holds_bit bit
  holds_bit_lem k = refl

  pub holds_le : (k : ℕ) → holds_bit ws k i ≤ 1
  unfolding holds_bit
  holds_le k = omega arith

  pub owner_none : (k n : ℕ) → ((l : ℕ) → k ≤ l → l < k + n → holds_bit ws l i ≡ 0) → owner_from k n ws i ≡ 0
  unfolding owner_from
  owner_none k zero h = refl
  owner_none k (suc n) h =
      rw (h k (omega arith) (omega arith)) (owner_none (suc k) n (λ l a b. h l (omega (arith, a)) (omega (arith, b))))

  -- the only slot that holds it
  pub owner_one : (m k n : ℕ) → k ≤ m → m < k + n → holds_bit ws m i ≡ 1 → ((l : ℕ) → l ≢ m → holds_bit ws l i ≡ 0) → owner_from k n ws i ≡ suc m
  unfolding owner_from
  owner_one m k zero a b e h = absurd (omega arith)
  owner_one m k (suc n) a b e h = go (eqb m k) refl (λ q. owner_one m (suc k) n q (omega arith) e h)
    where
      go : (t : Bool) → eqb m k ≡ t → (suc k ≤ m → owner_from (suc k) n ws i ≡ suc m)
          → cond (eqb (holds_bit ws k i) 1) (suc k) (owner_from (suc k) n ws i) ≡ suc m
      go true q r = rw (← eqb-true m k q, e)
      go false q r = rw (h k (λ z. eqb-false m k q (sym z))) (r (omega (arith, eqb-false m k q)))

  -- an owner holds it
  pub owner_holds : (m k n : ℕ) → owner_from k n ws i ≡ suc m → (k ≤ m) × (m < k + n) × (holds_bit ws m i ≡ 1)
  unfolding owner_from
  owner_holds m k zero e = absurd (omega (arith, e))
  owner_holds m k (suc n) e = go (eqb (holds_bit ws k i) 1) refl e (owner_holds m (suc k) n)
    where
      go : (t : Bool) → eqb (holds_bit ws k i) 1 ≡ t → cond t (suc k) (owner_from (suc k) n ws i) ≡ suc m
          → (owner_from (suc k) n ws i ≡ suc m → (suc k ≤ m) × (m < suc k + n) × (holds_bit ws m i ≡ 1))
          → (k ≤ m) × (m < k + suc n) × (holds_bit ws m i ≡ 1)
      go true q e r =
          let s : k ≡ m = omega (arith, e) in
          (omega (arith, s), omega (arith, s), ap (λ (l : ℕ). holds_bit ws l i) (sym s) ∙ eqb-true (holds_bit ws k i) 1 q)
      go false q e r = let a : (suc k ≤ m) × (m < suc k + n) × (holds_bit ws m i ≡ 1) = r e in (omega (arith, a.0), omega (arith, a.1), a.2)

  -- no owner: no slot holds it
  pub owner_free : (k n : ℕ) → owner_from k n ws i ≡ 0 → (l : ℕ) → k ≤ l → l < k + n → holds_bit ws l i ≡ 0
  unfolding owner_from
  owner_free k zero e l a b = absurd (omega arith)
  owner_free k (suc n) e l a b = go (eqb (holds_bit ws k i) 1) refl e (eqb l k) refl (λ q c. owner_free (suc k) n q l c (omega arith))
    where
      go : (t : Bool) → eqb (holds_bit ws k i) 1 ≡ t → cond t (suc k) (owner_from (suc k) n ws i) ≡ 0 → (u : Bool) → eqb l k ≡ u
          → (owner_from (suc k) n ws i ≡ 0 → suc k ≤ l → holds_bit ws l i ≡ 0) → holds_bit ws l i ≡ 0
      go true q e u s r = absurd (omega (arith, e))
      go false q e true s r = rw (eqb-true l k s) (omega (arith, holds_le k, eqb-false (holds_bit ws k i) 1 q))
      go false q e false s r = r e (omega (arith, eqb-false l k s))

-- two rows whose slots hold it alike
pub owner_alike : (ws ws' : List ℕ) (i k n : ℕ) → ((l : ℕ) → k ≤ l → l < k + n → holds_bit ws' l i ≡ holds_bit ws l i) → owner_from k n ws' i ≡ owner_from k n ws i
unfolding owner_from
owner_alike ws ws' i k zero h = refl
owner_alike ws ws' i k (suc n) h =
    rw (h k (omega arith) (omega arith), owner_alike ws ws' i (suc k) n (λ l a b. h l (omega (arith, a)) (omega (arith, b))))
