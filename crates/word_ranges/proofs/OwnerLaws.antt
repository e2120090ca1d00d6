-- Where the places are shared out over a row of E slots, an owner is at most E, and from place D on there is none.
use Rattle.std.specs.Prelude.{◌≡◌, ℕ, zero, suc, ◌+◌, ◌*◌, ◌/◌, ◌%◌, ◌^◌, ◌<◌, ◌≤◌, Bool, true, false, cond, eqb, ltb, List, get_or}
use mathlib.Core.Path.{refl, ◌∙◌}
use native.Mathlib.Decide.{ℕ_discrete as dec_eq}
use native.Mathlib.Nat.{zero-div}
use native.Mathlib.Omega.{arith}
use borrow.Author.Tests.{eqb-true, le-ltb, ltb-false, ltb-true}
use lib.ListN.{get_or-eq_default}
use Rattle.bitset.specs.Judge.{sum_bit}
use Rattle.bitset.specs.Places.{all_below}
use Rattle.bitset.specs.Words.{bit}
use Rattle.bitset.proofs.SetLaws.{all_bit}
use Rattle.settings.specs.declared.settings.Settings.{Settings}
use Rattle.state.specs.Ranges.{owner_good}
use Rattle.state.proofs.RangesLaws.{owner_makes}
use Rattle.words.specs.declared.cores.Rest.{Rest}
use Rattle.words.specs.Good.{Tidy, column}
use Rattle.words.specs.Record.{part_at}
use Rattle.words.specs.View.{holds_bit, owner_from, state_of}
use Rattle.words.proofs.RowLaws.{part_beyond}
use Rattle.words.proofs.ViewLaws.{owner_length, view_owner}

module _ (ws : List ℕ) (E i : ℕ) (beyond : (k : ℕ) → E ≤ k → holds_bit ws k i ≡ 0) where
  owner_most : (k n : ℕ) → owner_from k n ws i ≤ E
  unfolding owner_from
  owner_most k zero = omega arith
  owner_most k (suc n) = by (eqb (holds_bit ws k i) 1) refl (owner_most (suc k) n)
    where
      by : (t : Bool) → eqb (holds_bit ws k i) 1 ≡ t → owner_from (suc k) n ws i ≤ E → cond t (suc k) (owner_from (suc k) n ws i) ≤ E
      by false e rest = rest
      by true e rest = within (ltb k E) refl
        where
          within : (t : Bool) → ltb k E ≡ t → suc k ≤ E
          within true q = omega (arith, ltb-true k E q)
          within false q = absurd (omega (arith, eqb-true (holds_bit ws k i) 1 e, beyond k (ltb-false k E q)))

  owner_none : ((k : ℕ) → k < E → holds_bit ws k i ≡ 0) → (k n : ℕ) → owner_from k n ws i ≡ 0
  unfolding owner_from
  owner_none none k zero = refl
  owner_none none k (suc n) = by (eqb (holds_bit ws k i) 1) refl (owner_none none (suc k) n)
    where
      zero_bit : (t : Bool) → ltb k E ≡ t → holds_bit ws k i ≡ 0
      zero_bit true q = none k (ltb-true k E q)
      zero_bit false q = beyond k (ltb-false k E q)

      by : (t : Bool) → eqb (holds_bit ws k i) 1 ≡ t → owner_from (suc k) n ws i ≡ 0 → cond t (suc k) (owner_from (suc k) n ws i) ≡ 0
      by false e rest = rest
      by true e rest = absurd (omega (arith, eqb-true (holds_bit ws k i) 1 e, zero_bit (ltb k E) refl))

-- a column with no bit i has it in no slot
sum_none : (ws : List ℕ) (j i k n : ℕ) → sum_bit i (column ws j k n) ≡ 0 → (m : ℕ) → k ≤ m → m < k + n → bit (part_at ws m j) i ≡ 0
unfolding sum_bit column
sum_none ws j i k zero e m h h' = absurd (omega arith)
sum_none ws j i k (suc n) e m h h' = by (dec_eq k m) (sum_none ws j i (suc k) n (omega arith) m)
  where
    by : Dec (k ≡ m) → (suc k ≤ m → m < suc k + n → bit (part_at ws m j) i ≡ 0) → bit (part_at ws m j) i ≡ 0
    by (yes q) later = let here : bit (part_at ws k j) i ≡ 0 = omega arith in rw q at here
    by (no ne) later = later (omega arith) (omega arith)

module _ (s : Settings) (r : Rest) (ws : List ℕ) (tidy : Tidy s r ws) where
  hold_beyond : (i k : ℕ) → s.endpoints ≤ k → holds_bit ws k i ≡ 0
  unfolding holds_bit
  hold_beyond i k h =
      rw (part_beyond ws k (i / 64) (omega (arith, tidy.has_row_length)), zero-div (2 ^ (i % 64)))

  -- from place D on no slot has a place
  hold_none : (i : ℕ) → s.descriptors ≤ i → i < 256 → (k : ℕ) → k < s.endpoints → holds_bit ws k i ≡ 0
  unfolding holds_bit bit
  hold_none i h h' k hk =
      sum_none ws (i / 64) (i % 64) 0 s.endpoints (omega (arith, tidy.shared_out (i / 64) (i % 64) (omega arith) (omega arith), past)) k (omega arith)
      (omega arith)
    where
      past : bit (get_or (all_below s.descriptors) (i / 64) 0) (i % 64) ≡ 0
      past =
          let at : 64 * (i / 64) + i % 64 ≡ i = omega arith in
          all_bit s.descriptors (i / 64) (i % 64) (omega arith) (omega arith) ∙ rw (at, le-ltb i s.descriptors h)

  owned : (i : ℕ) → get_or (state_of s r ws).owner i 0 ≤ s.endpoints
  owned i = by (ltb i 256) refl
    where
      by : (t : Bool) → ltb i 256 ≡ t → get_or (state_of s r ws).owner i 0 ≤ s.endpoints
      by true q =
          omega (arith, view_owner s r ws i (ltb-true i 256 q), owner_most ws s.endpoints i (hold_beyond i) 0 32)
      by false q =
          let none : get_or (state_of s r ws).owner i 0 ≡ 0
          = get_or-eq_default (state_of s r ws).owner 0 (omega (arith, owner_length s r ws, ltb-false i 256 q)) in
          omega arith

  unowned : (i : ℕ) → s.descriptors ≤ i → get_or (state_of s r ws).owner i 0 ≡ 0
  unowned i h = by (ltb i 256) refl
    where
      by : (t : Bool) → ltb i 256 ≡ t → get_or (state_of s r ws).owner i 0 ≡ 0
      by true q =
          view_owner s r ws i (ltb-true i 256 q) ∙ owner_none ws s.endpoints i (hold_beyond i) (hold_none i h (ltb-true i 256 q)) 0 32
      by false q =
          get_or-eq_default (state_of s r ws).owner 0 (omega (arith, owner_length s r ws, ltb-false i 256 q))

  pub owners_good : owner_good (state_of s r ws).owner s.descriptors s.endpoints ≡ true
  owners_good = owner_makes (state_of s r ws).owner s.descriptors s.endpoints (λ i h. owned i) unowned
