-- Of each place of a tidy row: whose it is by the row of owners, by the slots' words and by the free words.
use Prim.Native.Nat.{ℕ, suc, ◌+◌, ◌*◌, ◌/◌, ◌%◌, ◌≤◌, ◌<◌}
use mathlib.Core.Path.{◌≡◌, refl, sym, ap, ◌∙◌}
use mathlib.Core.Logic.{◌≢◌}
use mathlib.Core.Bool.{Bool, true, false}
use mathlib.Core.List.{List}
use native.Mathlib.Numerals.{add-one}
use native.Mathlib.Omega.{arith}
use borrow.Author.Tests.{ltb-true, ltb-false, leb-true, leb-false, lt-ltb, le-ltb}
use lib.Dec.{ltb, leb}
use lib.ListN.{get_or, length, get_or-eq_default}
use Rattle.bitset.specs.Words.{bit, one_if}
use Rattle.bitset.proofs.BitLaws.{zero_bit}
use Rattle.bitset.proofs.SetLaws.{all_bit}
use Rattle.settings.specs.declared.settings.Settings.{Settings}
use Rattle.words.specs.declared.cores.Rest.{Rest}
use Rattle.words.specs.Good.{Tidy}
use Rattle.words.specs.Record.{part_at}
use Rattle.words.specs.View.{each_from, holds_bit, owner_from}
use Rattle.words.proofs.Each.{each_here}
use Rattle.words.proofs.PickLaws.{place_bit}
use Rattle.words.proofs.SumLaws.{slot_sum, sum_has, sum_two, sum_none, holds_bit_lem, owner_none, owner_one, owner_holds, owner_free}

-- the row of owners
abbrev pub owners_of : List ℕ → List ℕ
owners_of ws = each_from (owner_from 0 32 ws) 0 256

pub owners_at : (ws : List ℕ) (i : ℕ) → i < 256 → get_or (owners_of ws) i 0 ≡ owner_from 0 32 ws i
owners_at ws i h = each_here (owner_from 0 32 ws) 256 i h

-- a slot beyond a row holds nothing
pub beyond_holds : (ws : List ℕ) (e k i : ℕ) → length ws ≡ 6 * e → e ≤ k → holds_bit ws k i ≡ 0
unfolding holds_bit bit
beyond_holds ws e k i l h =
    let z : part_at ws k (i / 64) ≡ 0 = get_or-eq_default ws 0 (omega (arith, l)) in
    rw z (zero_bit (i % 64))

module _ (s : Settings) (r : Rest) (ws : List ℕ) (t : Tidy s r ws) (i : ℕ) (below : i < 256) where
  -- free, or in one slot, where it is one of the pool's
  pub place_sum : place_bit r.free i + slot_sum ws (i / 64) (i % 64) 0 s.endpoints ≡ one_if (ltb i s.descriptors)
  place_sum =
      let z : 64 * (i / 64) + i % 64 ≡ i = omega arith in
      t.shared_out (i / 64) (i % 64) (omega arith) (omega arith)
      ∙ all_bit s.descriptors (i / 64) (i % 64) (omega arith) (omega arith)
      ∙ ap (λ (p : ℕ). one_if (ltb p s.descriptors)) z

  one_le : (b : Bool) → one_if b ≤ 1
  one_le true = omega arith
  one_le false = omega arith

  -- at most one has it: the free words or one slot
  pub holds_alone : (k : ℕ) → holds_bit ws k i ≡ 1 → (l : ℕ) → l ≢ k → holds_bit ws l i ≡ 0
  holds_alone k e l ne = go (leb s.endpoints k) refl (leb s.endpoints l) refl (ltb l k) refl
    where
      most : slot_sum ws (i / 64) (i % 64) 0 s.endpoints ≤ 1
      most = omega (arith, place_sum, one_le (ltb i s.descriptors))

      go : (a : Bool) → leb s.endpoints k ≡ a → (b : Bool) → leb s.endpoints l ≡ b → (c : Bool) → ltb l k ≡ c → holds_bit ws l i ≡ 0
      go true p b q c o = absurd (omega (arith, e, beyond_holds ws s.endpoints k i t.has_row_length (leb-true s.endpoints k p)))
      go false p true q c o = beyond_holds ws s.endpoints l i t.has_row_length (leb-true s.endpoints l q)
      go false p false q true o =
          omega (
            arith,
            e,
            most,
            holds_bit_lem ws i k,
            holds_bit_lem ws i l,
            sum_two ws (i / 64) (i % 64) 0 s.endpoints l k (omega arith) (ltb-true l k o) (omega (arith, leb-false s.endpoints k p)),
          )
      go false p false q false o =
          omega (
            arith,
            e,
            most,
            holds_bit_lem ws i k,
            holds_bit_lem ws i l,
            sum_two ws (i / 64) (i % 64) 0 s.endpoints k l (omega arith) (omega (arith, ne, ltb-false l k o)) (omega (arith, leb-false s.endpoints l q)),
          )

  -- a free place is in no slot, and one of the pool's
  pub free_held : place_bit r.free i ≡ 1 → (l : ℕ) → holds_bit ws l i ≡ 0
  free_held e l = go (leb s.endpoints l) refl
    where
      go : (b : Bool) → leb s.endpoints l ≡ b → holds_bit ws l i ≡ 0
      go true q = beyond_holds ws s.endpoints l i t.has_row_length (leb-true s.endpoints l q)
      go false q =
          omega (
            arith,
            e,
            place_sum,
            one_le (ltb i s.descriptors),
            holds_bit_lem ws i l,
            sum_has ws (i / 64) (i % 64) 0 s.endpoints l (omega arith) (omega (arith, leb-false s.endpoints l q)),
          )

  -- from the pool's end on there is nothing
  pub outside_free : s.descriptors ≤ i → place_bit r.free i ≡ 0
  outside_free h = omega (arith, rw (le-ltb i s.descriptors h) at place_sum)

  pub outside_held : s.descriptors ≤ i → (l : ℕ) → holds_bit ws l i ≡ 0
  outside_held h l = go (leb s.endpoints l) refl
    where
      none : place_bit r.free i + slot_sum ws (i / 64) (i % 64) 0 s.endpoints ≡ 0
      none = rw (le-ltb i s.descriptors h) at place_sum

      go : (b : Bool) → leb s.endpoints l ≡ b → holds_bit ws l i ≡ 0
      go true q = beyond_holds ws s.endpoints l i t.has_row_length (leb-true s.endpoints l q)
      go false q =
          omega (
            arith,
            none,
            holds_bit_lem ws i l,
            sum_has ws (i / 64) (i % 64) 0 s.endpoints l (omega arith) (omega (arith, leb-false s.endpoints l q)),
          )

  module _ (slots : s.endpoints ≤ 32) where
    -- the slot that holds it is its owner
    pub held_owner : (k : ℕ) → holds_bit ws k i ≡ 1 → owner_from 0 32 ws i ≡ suc k
    held_owner k e = go (leb 32 k) refl
      where
        go : (b : Bool) → leb 32 k ≡ b → owner_from 0 32 ws i ≡ suc k
        go true q = absurd (omega (arith, e, beyond_holds ws s.endpoints k i t.has_row_length (omega (arith, leb-true 32 k q))))
        go false q = owner_one ws i k 0 32 (omega arith) (omega (arith, leb-false 32 k q)) e (holds_alone k e)

    -- an owner is one of the slots, and holds it
    pub owner_held : (k : ℕ) → owner_from 0 32 ws i ≡ suc k → (k < s.endpoints) × (holds_bit ws k i ≡ 1)
    owner_held k e = go (leb s.endpoints k) refl (owner_holds ws i k 0 32 e)
      where
        go : (b : Bool) → leb s.endpoints k ≡ b → (0 ≤ k) × (k < 0 + 32) × (holds_bit ws k i ≡ 1) → (k < s.endpoints) × (holds_bit ws k i ≡ 1)
        go true q h = absurd (omega (arith, h.2, beyond_holds ws s.endpoints k i t.has_row_length (leb-true s.endpoints k q)))
        go false q h = (leb-false s.endpoints k q, h.2)

    -- none: no slot holds it
    pub unowned_held : owner_from 0 32 ws i ≡ 0 → (l : ℕ) → holds_bit ws l i ≡ 0
    unowned_held e l = go (leb 32 l) refl
      where
        go : (b : Bool) → leb 32 l ≡ b → holds_bit ws l i ≡ 0
        go true q = beyond_holds ws s.endpoints l i t.has_row_length (omega (arith, leb-true 32 l q))
        go false q = owner_free ws i 0 32 e l (omega arith) (omega (arith, leb-false 32 l q))

    pub unheld_owner : ((l : ℕ) → holds_bit ws l i ≡ 0) → owner_from 0 32 ws i ≡ 0
    unheld_owner h = owner_none ws i 0 32 (λ l a b. h l)

    -- free exactly where it is one of the pool's and has no owner
    pub free_owner : place_bit r.free i ≡ 1 → owner_from 0 32 ws i ≡ 0
    free_owner e = unheld_owner (free_held e)

    pub owner_unowned : i < s.descriptors → owner_from 0 32 ws i ≡ 0 → place_bit r.free i ≡ 1
    owner_unowned h e =
        omega (
          arith,
          rw (lt-ltb i s.descriptors h) at place_sum,
          sum_none ws (i / 64) (i % 64) 0 s.endpoints (λ l a b. sym (holds_bit_lem ws i l) ∙ unowned_held e l),
        )

    pub outside_owner : s.descriptors ≤ i → owner_from 0 32 ws i ≡ 0
    outside_owner h = unheld_owner (outside_held h)

-- ---- the same by the row of owners

module _ (s : Settings) (r : Rest) (ws : List ℕ) (t : Tidy s r ws) (slots : s.endpoints ≤ 32) (i : ℕ) (below : i < 256) where
  abbrev owner : ℕ
  owner = get_or (owners_of ws) i 0

  pub row_owned : (k : ℕ) → (owner ≡ k + 1 → (k < s.endpoints) × (holds_bit ws k i ≡ 1)) × (holds_bit ws k i ≡ 1 → owner ≡ k + 1)
  row_owned k = (
    (λ e. owner_held s r ws t i below slots k (sym (owners_at ws i below) ∙ e ∙ add-one k)),
    (λ h. owners_at ws i below ∙ held_owner s r ws t i below slots k h ∙ sym (add-one k)),
  )
