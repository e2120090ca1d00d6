-- What a good state in words is, in plain facts on its words.
use Prim.Native.Nat.{ℕ, ◌+◌, ◌*◌, ◌≤◌, ◌<◌}
use mathlib.Core.Path.{◌≡◌, refl}
use mathlib.Core.Bool.{Bool, true, false}
use mathlib.Core.List.{List}
use native.Mathlib.Omega.{arith}
use borrow.Author.Tests.{ltb-true, ltb-false}
use lib.Dec.{ltb}
use lib.ListN.{length}
use Rattle.register.specs.Bits.{without_bits}
use Rattle.settings.specs.declared.settings.Settings.{Settings}
use Rattle.settings.proofs.SettingsLaws as settings
use Rattle.slot.specs.Ranges.{slot_good}
use Rattle.slot.proofs.SlotLaws.{SlotGood, slot_tells}
use Rattle.state.specs.Slots.{slot_at}
use Rattle.state.proofs.RangesLaws.{Ranges, ranges_tell}
use Rattle.words.specs.declared.cores.Rest.{Rest}
use Rattle.words.specs.Good.{Good}
use Rattle.words.specs.Record.{boundary_in, last_at, slot_in, word_at}
use Rattle.words.specs.View.{state_of}
use Rattle.words.proofs.FitLaws.{right_small}
use Rattle.words.proofs.RowLaws.{word_beyond}
use Rattle.words.proofs.ViewLaws.{view_slot}

-- what the numbers of a rest are
pub record Numbers (s : Settings) (r : Rest) : Type 0 where
  pub running_flag : r.running ≤ 1
  pub step_most : r.step ≤ 6
  pub waited_below : r.waited < s.wait
  pub address_least : 1 ≤ r.address
  pub address_most : r.address ≤ 128
  pub enabled_flag : r.enabled ≤ 1
  pub pending_only : without_bits r.pending 0x37 ≡ 0
  pub masked_only : without_bits r.masked 0x27 ≡ 0
  pub doorbell_flag : r.doorbell ≤ 1
  pub noted_most : r.noted ≤ r.doorbell
  pub unanswered_least : r.doorbell ≤ r.unanswered
  pub unanswered_most : r.unanswered ≤ 32

module _ (s : Settings) (r : Rest) (ws : List ℕ) (good : Good s r ws) where
  pub good_ranges : Ranges (state_of s r ws)
  good_ranges = ranges_tell (state_of s r ws) good.ranges

  pub good_settings : settings.Good s
  unfolding state_of
  good_settings = good_ranges.good

  pub good_numbers : Numbers s r
  unfolding state_of
  good_numbers =
      let g = good_ranges in
      record {
        running_flag = g.running_flag;
        step_most = g.step_most;
        waited_below = g.waited_below;
        address_least = g.address_least;
        address_most = g.address_most;
        enabled_flag = g.enabled_flag;
        pending_only = g.pending_only;
        masked_only = g.masked_only;
        doorbell_flag = g.doorbell_flag;
        noted_most = g.noted_most;
        unanswered_least = g.unanswered_least;
        unanswered_most = g.unanswered_most;
      }

  -- ---- the row

  pub good_length : length ws ≡ 6 * s.endpoints
  good_length = good.tidy.has_row_length

  pub good_room : (k : ℕ) → k < s.endpoints → 6 * k + 6 ≤ length ws
  good_room k h = omega (arith, good_length)

  pub good_beyond : (k : ℕ) → s.endpoints ≤ k → word_at ws k ≡ 0
  good_beyond k h = word_beyond ws k (omega (arith, good_length))

  -- ---- a slot

  slot_right_lem : (k : ℕ) → k < 32 → slot_good s.endpoints s.limit k r.unanswered (slot_at (state_of s r ws) k) ≡ true
  unfolding state_of
  slot_right_lem k h = good_ranges.slots k h

  pub good_slot : (k : ℕ) → k < 32 → slot_good s.endpoints s.limit k r.unanswered (slot_in (word_at ws k) (last_at ws k)) ≡ true
  good_slot k h = rw (view_slot s r ws k h) at (slot_right_lem k h)

  pub good_slot_tells : (k : ℕ) → k < 32 → SlotGood s.endpoints s.limit k r.unanswered (slot_in (word_at ws k) (last_at ws k))
  good_slot_tells k h = slot_tells s.endpoints s.limit k r.unanswered (slot_in (word_at ws k) (last_at ws k)) (good_slot k h)

  boundary_within : (k : ℕ) → k < 32 → boundary_in (word_at ws k) < 16384
  unfolding slot_in
  boundary_within k h =
      (right_small s.endpoints s.limit k r.unanswered (slot_in (word_at ws k) (last_at ws k)) good_numbers.unanswered_most (good_slot k h)
      ).boundary_small

  -- of every slot, also beyond the row
  pub good_boundary : (k : ℕ) → boundary_in (word_at ws k) < 16384
  good_boundary k = go (ltb k 32) refl
    where
      go : (b : Bool) → ltb k 32 ≡ b → boundary_in (word_at ws k) < 16384
      go true t = boundary_within k (ltb-true k 32 t)
      go false t =
          let z : word_at ws k ≡ 0 = good_beyond k (omega (arith, ltb-false k 32 t, good_settings.endpoints_most)) in
          omega (arith, z)
      -- ---- a place
