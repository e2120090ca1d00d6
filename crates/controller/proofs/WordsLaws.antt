-- The free places of a state in words are as many as its free descriptors; a place is a slot's by its words as by the row of owners.
use Rattle.std.specs.Prelude.{◌≡◌, ℕ, ◌+◌, ◌<◌, ◌≤◌, Bool, true, false, eqb, ltb, List, length, get_or, take}
use mathlib.Core.Path.{refl, sym, ◌∙◌}
use borrow.Author.Tests.{eq-eqb, eqb-false, eqb-true, le-ltb, ltb-false, ltb-true, ne_eqb}
use Rattle.bitset.specs.Places.{has_place as in_places, set_places}
use Rattle.settings.specs.declared.settings.Settings.{Settings}
use Rattle.words.specs.declared.cores.Rest.{Rest}
use Rattle.words.specs.Good.{Good, Tidy}
use Rattle.words.specs.Record.{places_at}
use Rattle.words.specs.View.{holds_bit, state_of}
use Rattle.words.proofs.GoodLaws.{good_settings}
use Rattle.words.proofs.MovedLaws.{has_bit}
use Rattle.words.proofs.OwnerLaws.{owners_of, row_owned}
use Rattle.words.proofs.PlacesLaws.{free_number, slot_place}
use Rattle.words.proofs.ViewLaws.{owner_length}
use Rattle.controller.specs.Readers.{free_count, has_place}
use Rattle.controller.proofs.FreeLaws.{zeros_are}
use Rattle.controller.proofs.ReaderCases.{place_beyond}

-- ---- the free

module _ (s : Settings) (r : Rest) (ws : List ℕ) where
  pub free_viewed : Tidy s r ws → s.descriptors ≤ 256 → s.endpoints ≤ 32 → length (set_places r.free) ≡ free_count (state_of s r ws)
  unfolding free_count state_of
  free_viewed t few slots = sym (free_number s r ws t few slots) ∙ zeros_are (take s.descriptors (owners_of ws))

  pub free_good : Good s r ws → length (set_places r.free) ≡ free_count (state_of s r ws)
  free_good good =
      free_viewed good.tidy (good_settings s r ws good).descriptors_most (good_settings s r ws good).endpoints_most

-- ---- a slot's place

module _ (s : Settings) (r : Rest) (ws : List ℕ) (good : Good s r ws) (k p : ℕ) where
  -- by the bit of its words
  module _ (below : p < 256) where
    pub owner_slot : get_or (state_of s r ws).owner p 0 ≡ k + 1 → (k < s.endpoints) × (holds_bit ws k p ≡ 1)
    unfolding state_of
    owner_slot e = (row_owned s r ws good.tidy (good_settings s r ws good).endpoints_most p below k).0 e

    pub slot_owner : holds_bit ws k p ≡ 1 → get_or (state_of s r ws).owner p 0 ≡ k + 1
    unfolding state_of
    slot_owner e = (row_owned s r ws good.tidy (good_settings s r ws good).endpoints_most p below k).1 e

    bit_owner : (b : Bool) → eqb (holds_bit ws k p) 1 ≡ b → b ≡ has_place (state_of s r ws) k p
    bit_owner true e = sym (eq-eqb (get_or (state_of s r ws).owner p 0) (k + 1) (slot_owner (eqb-true (holds_bit ws k p) 1 e)))
    bit_owner false e =
        sym (ne_eqb (get_or (state_of s r ws).owner p 0) (k + 1) (λ q. eqb-false (holds_bit ws k p) 1 e (owner_slot q).1))

    within_viewed : in_places (places_at ws k) p ≡ has_place (state_of s r ws) k p
    within_viewed =
        has_bit (places_at ws k) p below ∙ rw (slot_place ws k p below) (bit_owner (eqb (holds_bit ws k p) 1) refl)

  none_beyond : 256 ≤ p → has_place (state_of s r ws) k p ≡ false
  none_beyond h = sym (place_beyond (state_of s r ws) k p h (owner_length s r ws))

  no_place_lem : 256 ≤ p → in_places (places_at ws k) p ≡ false
  unfolding in_places
  no_place_lem h = rw (le-ltb p 256 h)

  pub place_viewed : in_places (places_at ws k) p ≡ has_place (state_of s r ws) k p
  place_viewed = go (ltb p 256) refl
    where
      go : (b : Bool) → ltb p 256 ≡ b → in_places (places_at ws k) p ≡ has_place (state_of s r ws) k p
      go true t = within_viewed (ltb-true p 256 t)
      go false t = no_place_lem (ltb-false p 256 t) ∙ sym (none_beyond (ltb-false p 256 t))
