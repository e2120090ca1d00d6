-- The places that the row of owners gives are those of the words: the free ones, how many they are, and those of a slot.
use Prim.Native.Nat.{ℕ, zero, suc, ◌+◌, ◌/◌, ◌%◌, ◌^◌, ◌≤◌, ◌<◌}
use mathlib.Core.Path.{◌≡◌, refl, sym, ap, ◌∙◌}
use mathlib.Core.Bool.{Bool, true, false}
use mathlib.Core.List.{List}
use native.Mathlib.Numerals.{add-one}
use native.Mathlib.Omega.{arith}
use borrow.Author.Tests.{eqb-true, eqb-false, eq-eqb, ne_eqb}
use lib.Dec.{eqb}
use lib.ListN.{get_or, length, take}
use lib.Seq.{take_all}
use Rattle.bitset.specs.Words.{bit}
use Rattle.bitset.specs.Places.{Words, lowest_of, set_places}
use Rattle.bitset.proofs.LowestLaws.{lowest_set}
use Rattle.bitset.proofs.OrderLaws.{set_few}
use Rattle.pool.specs.Places.{count_of, places_from}
use Rattle.settings.specs.declared.settings.Settings.{Settings}
use Rattle.words.specs.declared.cores.Rest.{Rest}
use Rattle.words.specs.Good.{Tidy}
use Rattle.words.specs.Record.{part_at, places_at}
use Rattle.words.specs.View.{each_from, holds_bit, owner_from}
use Rattle.words.proofs.EachLaws.{each_take}
use Rattle.words.proofs.PickLaws.{count_picked, picked, picked_below, picked_same, place_bit, search_picked, set_picked}
use Rattle.words.proofs.OwnerLaws.{free_owner, held_owner, outside_free, outside_held, owner_held, owner_unowned, owners_of}

-- the owners of the pool's places
pub own_part : (s : Settings) (ws : List ℕ) → s.descriptors ≤ 256 → take s.descriptors (owners_of ws) ≡ each_from (owner_from 0 32 ws) 0 s.descriptors
own_part s ws few = each_take (owner_from 0 32 ws) 0 256 s.descriptors few

-- bit i of a slot's places
pub slot_place : (ws : List ℕ) (k i : ℕ) → i < 256 → place_bit (places_at ws k) i ≡ holds_bit ws k i
unfolding holds_bit bit
slot_place ws k i h = go (i / 64) refl
  where
    go : (j : ℕ) → i / 64 ≡ j → get_or (places_at ws k) j 0 / 2 ^ (i % 64) % 2 ≡ part_at ws k j / 2 ^ (i % 64) % 2
    go zero e = refl
    go (suc zero) e = refl
    go (suc (suc zero)) e = refl
    go (suc (suc (suc zero))) e = refl
    go (suc (suc (suc (suc j)))) e = absurd (omega (arith, e))

module _ (s : Settings) (r : Rest) (ws : List ℕ) (t : Tidy s r ws) (few : s.descriptors ≤ 256) (slots : s.endpoints ≤ 32) where
  free_test : (i : ℕ) → i < s.descriptors → eqb (owner_from 0 32 ws i) 0 ≡ eqb (place_bit r.free i) 1
  free_test i h = go (eqb (owner_from 0 32 ws i) 0) refl
    where
      go : (b : Bool) → eqb (owner_from 0 32 ws i) 0 ≡ b → b ≡ eqb (place_bit r.free i) 1
      go true e =
          sym (eq-eqb (place_bit r.free i) 1 (owner_unowned s r ws t i (omega arith) slots h (eqb-true (owner_from 0 32 ws i) 0 e)))
      go false e =
          sym (ne_eqb (place_bit r.free i) 1 (λ q. eqb-false (owner_from 0 32 ws i) 0 e (free_owner s r ws t i (omega arith) slots q)))

  pub free_picked : picked (λ j. eqb (owner_from 0 32 ws j) 0) 0 s.descriptors ≡ set_places r.free
  free_picked =
      picked_same (λ j. eqb (owner_from 0 32 ws j) 0) (λ j. eqb (place_bit r.free j) 1) 0 s.descriptors (λ j a b. free_test j (omega (arith, b)))
      ∙ sym (picked_below (λ j. eqb (place_bit r.free j) 1) s.descriptors 256 few
      (λ j a b. ne_eqb (place_bit r.free j) 1 (λ q. omega (arith, q, outside_free s r ws t j b a))))
      ∙ sym (set_picked r.free)

  pub free_places : (n : ℕ) → places_from 0 (take s.descriptors (owners_of ws)) 0 n ≡ take n (set_places r.free)
  free_places n =
      rw (own_part s ws few) (search_picked (owner_from 0 32 ws) 0 s.descriptors 0 n ∙ ap (take n) free_picked)

  -- those that a request of n descriptors takes
  pub taken_places : Words r.free → (n : ℕ) → places_from 0 (take s.descriptors (owners_of ws)) 0 n ≡ set_places (lowest_of r.free n)
  taken_places fit n = free_places n ∙ sym (lowest_set r.free n fit)

  pub free_number : count_of 0 (take s.descriptors (owners_of ws)) ≡ length (set_places r.free)
  free_number = rw (own_part s ws few) (count_picked (owner_from 0 32 ws) 0 s.descriptors 0 ∙ ap length free_picked)

  module _ (k : ℕ) where
    own_test : (i : ℕ) → i < s.descriptors → eqb (owner_from 0 32 ws i) (k + 1) ≡ eqb (place_bit (places_at ws k) i) 1
    own_test i h = rw (add-one k, slot_place ws k i (omega arith)) (go (eqb (owner_from 0 32 ws i) (suc k)) refl)
      where
        go : (b : Bool) → eqb (owner_from 0 32 ws i) (suc k) ≡ b → b ≡ eqb (holds_bit ws k i) 1
        go true e = sym (eq-eqb (holds_bit ws k i) 1 (owner_held s r ws t i (omega arith) slots k (eqb-true (owner_from 0 32 ws i) (suc k) e)).1)
        go false e =
            sym (ne_eqb (holds_bit ws k i) 1 (λ q. eqb-false (owner_from 0 32 ws i) (suc k) e (held_owner s r ws t i (omega arith) slots k q)))

    own_picked : picked (λ j. eqb (owner_from 0 32 ws j) (k + 1)) 0 s.descriptors ≡ set_places (places_at ws k)
    own_picked =
        picked_same (λ j. eqb (owner_from 0 32 ws j) (k + 1)) (λ j. eqb (place_bit (places_at ws k) j) 1) 0 s.descriptors (λ j a b. own_test j (omega (arith, b)))
        ∙ sym (picked_below (λ j. eqb (place_bit (places_at ws k) j) 1) s.descriptors 256 few
        (λ j a b. ne_eqb (place_bit (places_at ws k) j) 1 (λ q. omega (arith, q, slot_place ws k j b, outside_held s r ws t j b a k))))
        ∙ sym (set_picked (places_at ws k))

    pub own_places : places_from 0 (take s.descriptors (owners_of ws)) (k + 1) 256 ≡ set_places (places_at ws k)
    own_places =
        rw (own_part s ws few)
        (search_picked (owner_from 0 32 ws) 0 s.descriptors (k + 1) 256 ∙ ap (take 256) own_picked
        ∙ take_all 256 (set_places (places_at ws k)) (set_few (places_at ws k)))
