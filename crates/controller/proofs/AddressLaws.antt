-- Allotting an address: 1 to 127 in turn, then refusal 2; the state stays in its ranges, and a refusal leaves it as it was.
use Rattle.std.specs.Prelude.{◌≡◌, ℕ, ◌+◌, ◌<◌, ◌≤◌, Bool, true, false, ltb, Err, Ok}
use mathlib.Core.Path.{refl, sym}
use native.Mathlib.Omega.{arith}
use borrow.Author.Tests.{ltb-false, ltb-true}
use Rattle.common.specs.declared.answer.Refusal.TheVariants.{InvalidParameter, SlotLimitReached}
use Rattle.state.specs.Plain.{Ehci}
use Rattle.controller.specs.Address.{allot_of}
use Rattle.state.specs.Ranges.{in_ranges}
use Rattle.state.specs.Slots.{slot_at}
use Rattle.state.specs.State.{with_next_address}
use Rattle.controller.proofs.AddressCases.{allot_bad, allot_done, allot_none}
use Rattle.state.proofs.RangesLaws.{Ranges, ranges_make, ranges_tell}

module _ (s : Ehci) where
  pub allot_in_turn : in_ranges s ≡ true → s.address ≤ 127
      → allot_of s ≡ record { answer = Ok s.address; state = with_next_address s (s.address + 1) }
  allot_in_turn e h = sym (allot_done s true (sym e) refl h)

  pub allot_after : in_ranges s ≡ true → 127 < s.address → allot_of s ≡ record { answer = Err SlotLimitReached; state = s }
  allot_after e h = sym (allot_none s true (sym e) refl h)

  pub allot_out : in_ranges s ≡ false → allot_of s ≡ record { answer = Err InvalidParameter; state = s }
  allot_out e = sym (allot_bad s false (sym e) refl)

  -- another next address, within 1 and 128
  pub address_keeps : (a : ℕ) → 1 ≤ a → a ≤ 128 → Ranges s → Ranges (with_next_address s a)
  unfolding with_next_address slot_at
  address_keeps a least most r =
      record {
        good = r.good;
        running_flag = r.running_flag;
        step_most = r.step_most;
        waited_below = r.waited_below;
        address_least = least;
        address_most = most;
        enabled_flag = r.enabled_flag;
        pending_only = r.pending_only;
        masked_only = r.masked_only;
        doorbell_flag = r.doorbell_flag;
        noted_most = r.noted_most;
        unanswered_least = r.unanswered_least;
        unanswered_most = r.unanswered_most;
        owned = r.owned;
        unowned = r.unowned;
        slots = r.slots;
      }

  pub allot_keeps : in_ranges s ≡ true → in_ranges (allot_of s).state ≡ true
  allot_keeps e = by (ltb 127 s.address) refl
    where
      by : (t : Bool) → ltb 127 s.address ≡ t → in_ranges (allot_of s).state ≡ true
      by true q = rw (allot_after e (ltb-true 127 s.address q)) e
      by false q =
          let h : s.address ≤ 127 = ltb-false 127 s.address q in
          rw (allot_in_turn e h)
          (ranges_make (with_next_address s (s.address + 1))
          (address_keeps (s.address + 1) (omega arith) (omega arith) (ranges_tell s e)))
