-- A place of the pool is in a request exactly where it is not free; then the slot that has it has a request.
use Prim.Native.Nat.{ℕ, ◌-◌, ◌≤◌, ◌<◌}
use mathlib.Core.Path.{◌≡◌, refl, sym, ap, ◌∙◌}
use mathlib.Core.Bool.{Bool, true, false, not, ◌&&◌}
use mathlib.Core.List.{List}
use native.Mathlib.Omega.{arith}
use borrow.Author.Tests.{eqb-true, eqb-false, leb-true, leb-false, le-leb, lt-leb, ltb-true}
use lib.Dec.{leb, ltb}
use lib.ListN.{get_or}
use Rattle.bitset.specs.Places.{has_place}
use Rattle.settings.specs.declared.settings.Settings.{Settings}
use Rattle.words.specs.declared.cores.Rest.{Rest}
use Rattle.words.specs.Good.{Tidy}
use Rattle.words.specs.Record.{phase_in, word_at}
use Rattle.words.specs.View.{holds_bit}
use Rattle.words.proofs.PickLaws.{place_bit}
use Rattle.words.proofs.MovedLaws.{has_bit, none_bit}
use Rattle.words.proofs.OwnerLaws.{free_owner, owner_held, owner_unowned, owners_at, owners_of}
use Rattle.words.proofs.PlacesLaws.{slot_place}

module _ (s : Settings) (r : Rest) (ws : List ℕ) (t : Tidy s r ws) (few : s.descriptors ≤ 256) (slots : s.endpoints ≤ 32) (p : ℕ) where
  abbrev owner : ℕ
  owner = get_or (owners_of ws) p 0

  pub taken_place_lem : p < s.descriptors → has_place r.free p ≡ false → 1 ≤ owner
  taken_place_lem h e = go (leb 1 owner) refl
    where
      go : (b : Bool) → leb 1 owner ≡ b → 1 ≤ owner
      go true q = leb-true 1 owner q
      go false q =
          absurd (eqb-false (place_bit r.free p) 1 (sym (has_bit r.free p (omega arith)) ∙ e)
          (owner_unowned s r ws t p (omega arith) slots h (omega (arith, owners_at ws p (omega arith), leb-false 1 owner q))))

  -- as tests
  pub in_request_lem : ltb p s.descriptors && leb 1 owner ≡ ltb p s.descriptors && not (has_place r.free p)
  in_request_lem = go (ltb p s.descriptors) refl (has_place r.free p) refl
    where
      go : (b : Bool) → ltb p s.descriptors ≡ b → (c : Bool) → has_place r.free p ≡ c → b && leb 1 owner ≡ b && not c
      go false q c e = refl
      go true q true e = lt-leb 1 owner (omega (arith, none))
        where
          h : p < s.descriptors
          h = ltb-true p s.descriptors q

          none : owner ≡ 0
          none =
              owners_at ws p (omega (arith, h))
              ∙ free_owner s r ws t p (omega (arith, h)) slots (eqb-true (place_bit r.free p) 1 (sym (has_bit r.free p (omega (arith, h))) ∙ e))
      go true q false e = le-leb 1 owner (taken_place_lem (ltb-true p s.descriptors q) e)

  -- its owner is a slot with a request
  pub owner_busy : p < 256 → 1 ≤ owner → (owner - 1 < s.endpoints) × (2 ≤ phase_in (word_at ws (owner - 1)))
  owner_busy h o = (has.0, go (leb 2 (phase_in (word_at ws (owner - 1)))) refl)
    where
      has : (owner - 1 < s.endpoints) × (holds_bit ws (owner - 1) p ≡ 1)
      has = owner_held s r ws t p h slots (owner - 1) (omega (arith, owners_at ws p h, o))

      go : (b : Bool) → leb 2 (phase_in (word_at ws (owner - 1))) ≡ b → 2 ≤ phase_in (word_at ws (owner - 1))
      go true q = leb-true 2 (phase_in (word_at ws (owner - 1))) q
      go false q =
          absurd (omega (
            arith,
            has.1,
            slot_place ws (owner - 1) p h,
            none_bit p,
            ap (λ (w : List ℕ). place_bit w p) ((t.held (owner - 1) has.0).empty (leb-false 2 (phase_in (word_at ws (owner - 1))) q)),
          ))
