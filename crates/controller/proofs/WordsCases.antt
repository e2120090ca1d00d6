-- The returns of an allotment over words, and what the readers of a slot say of the state that the words stand for.
use Rattle.std.specs.Prelude.{◌≡◌, ℕ, ◌+◌, ◌<◌, ◌≤◌, Bool, true, not, eqb, leb, List, Err, Ok}
use mathlib.Core.Path.{refl, sym}
use native.Mathlib.Decide.{ℕ_discrete as dec_eq}
use native.Mathlib.Omega.{arith}
use Rattle.common.specs.declared.answer.Refusal.TheVariants.{SlotLimitReached}
use Rattle.bitset.specs.Places.{has_place as in_places}
use Rattle.settings.specs.declared.settings.Settings.{Settings}
use Rattle.state.specs.Ranges.{in_ranges}
use Rattle.state.specs.State.{with_next_address}
use Rattle.words.specs.declared.cores.Rest.{Rest}
use Rattle.words.specs.Good.{Good}
use Rattle.words.specs.Record.{last_at, phase_in, places_at, slot_in, word_at}
use Rattle.words.specs.Rest.{rest_with_next_address}
use Rattle.words.specs.View.{state_of}
use Rattle.pipe.specs.Endpoints.{decoded}
use Rattle.pipe.proofs.WordsLaws.{good_endpoint, word_closed, word_idle, word_linked, word_unlinking}
use Rattle.controller.specs.Plain.{Allotment}
use Rattle.controller.specs.Address.{allot_of}
use Rattle.controller.specs.Words.{held_at, open_at}
use Rattle.controller.specs.Readers.{has_endpoint, holds_request, is_opened, is_uncollected}
use Rattle.controller.proofs.AddressCases.{allot_done, allot_none}

-- ---- `allocate_address`

module _ (s : Settings) (r : Rest) where
  pub address_none : 127 < r.address → (ws : List ℕ) → in_ranges (state_of s r ws) ≡ true
      → ◌≡◌ {A = Allotment} (record { answer = Err SlotLimitReached; state = state_of s r ws }) (allot_of (state_of s r ws))
  unfolding state_of
  address_none h ws e = allot_none (state_of s r ws) true (sym e) refl h

  pub address_next : r.address ≤ 127 → (ws : List ℕ) → in_ranges (state_of s r ws) ≡ true
      → ◌≡◌ {A = Allotment}
      (record { answer = Ok r.address; state = state_of s (rest_with_next_address r (r.address + 1)) ws })
      (allot_of (state_of s r ws))
  unfolding state_of with_next_address
  address_next h ws e = allot_done (state_of s r ws) true (sym e) refl h

-- ---- `is_open` and `uncollected`

module _ (w last : ℕ) where
  open_by : Dec (phase_in w ≡ 0) → Dec (phase_in w ≡ 1) → Dec (phase_in w ≡ 2)
      → not (eqb (phase_in w) 0) ≡ has_endpoint (decoded (slot_in w last))
  open_by (yes z) one two = rw (word_closed w last z, z)
  open_by (no a) (yes q) two = rw (word_idle w last q, q)
  open_by (no a) (no b) (yes q) = rw (word_linked w last q, q)
  open_by (no a) (no b) (no c) =
      let three : phase_in w ≡ 3 = omega (arith, a, b, c) in
      rw (word_unlinking w last three, three)

  held_by : Dec (phase_in w ≡ 0) → Dec (phase_in w ≡ 1) → Dec (phase_in w ≡ 2)
      → leb 2 (phase_in w) ≡ holds_request (decoded (slot_in w last))
  held_by (yes z) one two = rw (word_closed w last z, z)
  held_by (no a) (yes q) two = rw (word_idle w last q, q)
  held_by (no a) (no b) (yes q) = rw (word_linked w last q, q)
  held_by (no a) (no b) (no c) =
      let three : phase_in w ≡ 3 = omega (arith, a, b, c) in
      rw (word_unlinking w last three, three)

module _ (s : Settings) (r : Rest) (ws : List ℕ) (good : Good s r ws) (k : ℕ) where
  pub open_viewed : open_at ws k ≡ is_opened (state_of s r ws) k
  open_viewed =
      rw (good_endpoint s r ws good k)
      (open_by (word_at ws k) (last_at ws k) (dec_eq (phase_in (word_at ws k)) 0) (dec_eq (phase_in (word_at ws k)) 1) (dec_eq (phase_in (word_at ws k)) 2))

  pub held_viewed : held_at ws k ≡ is_uncollected (state_of s r ws) k
  held_viewed =
      rw (good_endpoint s r ws good k)
      (held_by (word_at ws k) (last_at ws k) (dec_eq (phase_in (word_at ws k)) 0) (dec_eq (phase_in (word_at ws k)) 1) (dec_eq (phase_in (word_at ws k)) 2))

-- the same of a word that was read
module _ (s : Settings) (r : Rest) (ws : List ℕ) (k w : ℕ) (good : Good s r ws) (ew : w ≡ word_at ws k) where
  pub open_word : not (eqb (phase_in w) 0) ≡ is_opened (state_of s r ws) k
  open_word = rw ew (open_viewed s r ws good k)

  pub held_word : leb 2 (phase_in w) ≡ is_uncollected (state_of s r ws) k
  held_word = rw ew (held_viewed s r ws good k)

-- ---- the readers' returns

module _ (ws : List ℕ) (k : ℕ) where
  pub open_said : (w : ℕ) → w ≡ word_at ws k → not (eqb (phase_in w) 0) ≡ open_at ws k
  open_said w e = rw e

  pub held_said : (w : ℕ) → w ≡ word_at ws k → leb 2 (phase_in w) ≡ held_at ws k
  held_said w e = rw e

  pub place_said : (p : ℕ) (x : List ℕ) (t : Bool) → x ≡ places_at ws k → t ≡ in_places x p → t ≡ in_places (places_at ws k) p
  place_said p x t ex et = rw (sym ex) et
