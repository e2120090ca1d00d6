-- The state of a row in which one slot, or one slot's places, are written.
use Prim.Native.Nat.{ℕ, zero, suc, ◌+◌, ◌*◌, ◌/◌, ◌≤◌, ◌<◌}
use mathlib.Core.Path.{◌≡◌, refl, ap, ◌∙◌}
use mathlib.Core.List.{List}
use native.Mathlib.Omega.{arith}
use lib.ListN.{length, set}
use Rattle.settings.specs.declared.settings.Settings.{Settings}
use Rattle.slot.specs.declared.slot.Slot.{Slot}
use Rattle.state.specs.Slots.{with_slot}
use Rattle.state.specs.State.{with_owner}
use Rattle.words.specs.declared.cores.Rest.{Rest}
use Rattle.words.specs.Record.{SlotFits, boundary_in, cancel_in, direction_in, id_in, kind_in, last_at, length_in, part_at, phase_in, put_places, put_slot, request_in, size_in, toggle_in, word_at, word_of}
use Rattle.words.specs.View.{each_from, holds_bit, owner_from, state_of}
use Rattle.words.proofs.Each.{each_same, each_set}
use Rattle.words.proofs.RecordLaws.{boundary_back, cancel_back, direction_back, id_back, kind_back, length_back, phase_back, request_back, size_back, toggle_back}
use Rattle.words.proofs.RowLaws.{places_last, places_word, put_last, put_last_else, put_part_lem, put_word, put_word_else}

-- ---- rows whose slots have the same places

module _ (vs ws : List ℕ) (same : (k j : ℕ) → j < 4 → part_at vs k j ≡ part_at ws k j) where
  holds_same : (k i : ℕ) → i < 256 → holds_bit vs k i ≡ holds_bit ws k i
  unfolding holds_bit
  holds_same k i h = rw (same k (i / 64) (omega arith))

  owner_same : (k n i : ℕ) → i < 256 → owner_from k n vs i ≡ owner_from k n ws i
  unfolding owner_from
  owner_same k zero i h = refl
  owner_same k (suc n) i h = rw (holds_same k i h, owner_same (suc k) n i h)

  pub owners_same : each_from (owner_from 0 32 vs) 0 256 ≡ each_from (owner_from 0 32 ws) 0 256
  owners_same = each_same (owner_from 0 32 vs) (owner_from 0 32 ws) 0 256 (λ i l. owner_same 0 32 i (omega (arith, l)))

-- ---- one slot

module _ (ws : List ℕ) (k : ℕ) (e : Slot) (below : k < 32) (room : 6 * k + 6 ≤ length ws) (fits : SlotFits e) where
  put_field : (f : ℕ → ℕ) (v : ℕ) → f (word_of e) ≡ v
      → each_from (λ j. f (word_at (put_slot ws k e) j)) 0 32 ≡ set (each_from (λ j. f (word_at ws j)) 0 32) k v
  put_field f v h =
      each_set (λ j. f (word_at (put_slot ws k e) j)) (λ j. f (word_at ws j)) 32 k v below (ap f (put_word ws k e room) ∙ h)
      (λ j ne. ap f (put_word_else ws k e j ne))

  put_ids : each_from (λ j. id_in (last_at (put_slot ws k e) j)) 0 32 ≡ set (each_from (λ j. id_in (last_at ws j)) 0 32) k e.id
  put_ids =
      each_set (λ j. id_in (last_at (put_slot ws k e) j)) (λ j. id_in (last_at ws j)) 32 k e.id below
      (ap id_in (put_last ws k e room) ∙ id_back e fits)
      (λ j ne. ap id_in (put_last_else ws k e j ne))

  put_requests_lem : each_from (λ j. request_in (phase_in (word_at (put_slot ws k e) j)) (last_at (put_slot ws k e) j)) 0 32
      ≡ set (each_from (λ j. request_in (phase_in (word_at ws j)) (last_at ws j)) 0 32) k e.request
  put_requests_lem =
      each_set (λ j. request_in (phase_in (word_at (put_slot ws k e) j)) (last_at (put_slot ws k e) j))
      (λ j. request_in (phase_in (word_at ws j)) (last_at ws j)) 32 k e.request below
      (rw (put_word ws k e room, put_last ws k e room, phase_back e fits) (request_back e fits))
      (λ j ne. rw (put_word_else ws k e j ne, put_last_else ws k e j ne))

  pub view_put : (s : Settings) (r : Rest) → state_of s r (put_slot ws k e) ≡ with_slot (state_of s r ws) k e
  unfolding state_of with_slot
  view_put s r =
      rw (
        put_field (λ w. phase_in w) e.phase (phase_back e fits),
        put_field (λ w. kind_in w) e.kind (kind_back e fits),
        put_field (λ w. size_in w) e.size (size_back e fits),
        put_field (λ w. toggle_in w) e.toggle (toggle_back e fits),
        put_ids,
        put_requests_lem,
        put_field (λ w. direction_in w) e.direction (direction_back e fits),
        put_field (λ w. length_in w) e.length (length_back e fits),
        put_field (λ w. cancel_in w) e.cancel (cancel_back e fits),
        put_field (λ w. boundary_in w) e.boundary (boundary_back e fits),
        owners_same (put_slot ws k e) ws (put_part_lem ws k e),
      )

-- ---- one slot's places: the owners alone are others

module _ (ws : List ℕ) (k : ℕ) (w : List ℕ) where
  field_stays : (f : ℕ → ℕ) → each_from (λ j. f (word_at (put_places ws k w) j)) 0 32 ≡ each_from (λ j. f (word_at ws j)) 0 32
  field_stays f =
      each_same (λ j. f (word_at (put_places ws k w) j)) (λ j. f (word_at ws j)) 0 32 (λ j l. ap f (places_word ws k w j))

  ids_stay : each_from (λ j. id_in (last_at (put_places ws k w) j)) 0 32 ≡ each_from (λ j. id_in (last_at ws j)) 0 32
  ids_stay =
      each_same (λ j. id_in (last_at (put_places ws k w) j)) (λ j. id_in (last_at ws j)) 0 32 (λ j l. ap id_in (places_last ws k w j))

  requests_stay : each_from (λ j. request_in (phase_in (word_at (put_places ws k w) j)) (last_at (put_places ws k w) j)) 0 32
      ≡ each_from (λ j. request_in (phase_in (word_at ws j)) (last_at ws j)) 0 32
  requests_stay =
      each_same (λ j. request_in (phase_in (word_at (put_places ws k w) j)) (last_at (put_places ws k w) j))
      (λ j. request_in (phase_in (word_at ws j)) (last_at ws j)) 0 32
      (λ j l. rw (places_word ws k w j, places_last ws k w j))

  pub put_places_view : (s : Settings) (r : Rest)
      → state_of s r (put_places ws k w) ≡ with_owner (state_of s r ws) (each_from (owner_from 0 32 (put_places ws k w)) 0 256)
  unfolding state_of with_owner
  put_places_view s r =
      rw (
        field_stays (λ v. phase_in v),
        field_stays (λ v. kind_in v),
        field_stays (λ v. size_in v),
        field_stays (λ v. toggle_in v),
        ids_stay,
        requests_stay,
        field_stays (λ v. direction_in v),
        field_stays (λ v. length_in v),
        field_stays (λ v. cancel_in v),
        field_stays (λ v. boundary_in v),
      )
