-- What a state in its ranges is, in plain facts, both ways: what `in_ranges` tells, and what makes it true.
use Prim.Native.Nat.{ℕ, zero, suc, ◌+◌, ◌-◌, ◌≤◌, ◌<◌}
use mathlib.Core.Path.{◌≡◌, refl}
use mathlib.Core.Bool.{Bool, true}
use mathlib.Core.List.{List, [], ◌∷◌}
use native.Mathlib.Decide.{ℕ_discrete as dec_eq}
use native.Mathlib.Omega.{arith}
use borrow.Author.Tests.{eq-eqb, eqb-true, le-leb, leb-true, lt-ltb, ltb-true}
use lib.Dec.{eqb, leb, ltb}
use lib.ListN.{drop, get_or, length, length-take, take}
use lib.Seq.{get_or-drop, get_or-take}
use Rattle.register.specs.Bits.{without_bits}
use Rattle.state.specs.Plain.{Ehci}
use Rattle.slot.specs.Ranges.{slot_good}
use Rattle.state.specs.Ranges.{doorbell_good, in_ranges, interrupt_good, largest, machine_good, owner_good, rest_good, slots_good}
use Rattle.settings.specs.Settings.{settings_good}
use Rattle.state.specs.Slots.{slot_at}
use Rattle.common.specs.Tests.{within}
use Rattle.state.proofs.RangesCases.{largest_le}
use Rattle.common.proofs.TestLaws.{within_least, within_most, both_tells, within_makes}
use Rattle.settings.proofs.SettingsLaws.{Good, good_tells, good_makes}

-- slot k of a state is as it must be
abbrev pub slot_right : Ehci → ℕ → Bool
slot_right s k = slot_good s.settings.endpoints s.settings.limit k s.unanswered (slot_at s k)

pub record Ranges (s : Ehci) : Type 0 where
  pub good : Good s.settings
  pub running_flag : s.running ≤ 1
  pub step_most : s.step ≤ 6
  pub waited_below : s.waited < s.settings.wait
  pub address_least : 1 ≤ s.address
  pub address_most : s.address ≤ 128
  pub enabled_flag : s.enabled ≤ 1
  pub pending_only : without_bits s.pending 0x37 ≡ 0
  pub masked_only : without_bits s.masked 0x27 ≡ 0
  pub doorbell_flag : s.doorbell ≤ 1
  pub noted_most : s.noted ≤ s.doorbell
  pub unanswered_least : s.doorbell ≤ s.unanswered
  pub unanswered_most : s.unanswered ≤ 32
  pub owned : (i : ℕ) → i < s.settings.descriptors → get_or s.owner i 0 ≤ s.settings.endpoints
  pub unowned : (i : ℕ) → s.settings.descriptors ≤ i → get_or s.owner i 0 ≡ 0
  pub slots : (k : ℕ) → k < 32 → slot_right s k ≡ true

-- ---- the largest of a list

pub largest_most : (l : List ℕ) (b : ℕ) → ((i : ℕ) → i < length l → get_or l i 0 ≤ b) → largest l ≤ b
unfolding largest
largest_most [] b h = omega arith
largest_most (x ∷ l) b h =
    omega (arith, h 0 (omega arith), largest_most l b (λ i hi. h (suc i) (omega arith)))

module _ (owner : List ℕ) (D E : ℕ) where
  pub owner_tells : owner_good owner D E ≡ true
      → ((i : ℕ) → i < D → get_or owner i 0 ≤ E) × ((i : ℕ) → D ≤ i → get_or owner i 0 ≡ 0)
  unfolding owner_good
  owner_tells e = (below, beyond)
    where
      p : (leb (largest (take D owner)) E ≡ true) × (leb (largest (drop D owner)) 0 ≡ true)
      p = both_tells _ _ e

      below : (i : ℕ) → i < D → get_or owner i 0 ≤ E
      below i h =
          omega (arith, leb-true (largest (take D owner)) E p.0, largest_le (take D owner) i, get_or-take D owner i 0 h)

      beyond : (i : ℕ) → D ≤ i → get_or owner i 0 ≡ 0
      beyond i h =
          let at : D + (i - D) ≡ i = omega arith in
          omega (arith, leb-true (largest (drop D owner)) 0 p.1, largest_le (drop D owner) (i - D), rw at at (get_or-drop D owner (i - D) 0))

  pub owner_makes : ((i : ℕ) → i < D → get_or owner i 0 ≤ E) → ((i : ℕ) → D ≤ i → get_or owner i 0 ≡ 0) → owner_good owner D E ≡ true
  unfolding owner_good
  owner_makes below beyond =
      rw (
        le-leb (largest (take D owner)) E (largest_most (take D owner) E front),
        le-leb (largest (drop D owner)) 0 (largest_most (drop D owner) 0 back),
      )
    where
      front : (i : ℕ) → i < length (take D owner) → get_or (take D owner) i 0 ≤ E
      front i h =
          let below-D : i < D = omega (arith, length-take D owner) in
          rw (get_or-take D owner i 0 below-D) (below i below-D)

      back : (i : ℕ) → i < length (drop D owner) → get_or (drop D owner) i 0 ≤ 0
      back i h = omega (arith, get_or-drop D owner i 0, beyond (D + i) (omega arith))

-- ---- the slots

pub slots_tell : (s : Ehci) (k n : ℕ) → slots_good k n s ≡ true → (i : ℕ) → k ≤ i → i < k + n → slot_right s i ≡ true
unfolding slots_good
slots_tell s k zero e i h h' = absurd (omega arith)
slots_tell s k (suc n) e i h h' =
    let p = both_tells (slot_right s k) (slots_good (suc k) n s) e in
    by p.0 (dec_eq k i) (λ g. slots_tell s (suc k) n p.1 i g (omega arith))
  where
    by : slot_right s k ≡ true → Dec (k ≡ i) → (suc k ≤ i → slot_right s i ≡ true) → slot_right s i ≡ true
    by here (yes q) later = rw q at here
    by here (no ne) later = later (omega arith)

pub slots_make : (s : Ehci) (k n : ℕ) → ((i : ℕ) → k ≤ i → i < k + n → slot_right s i ≡ true) → slots_good k n s ≡ true
unfolding slots_good
slots_make s k zero h = refl
slots_make s k (suc n) h =
    rw (h k (omega arith) (omega arith)) (slots_make s (suc k) n (λ i hi hi'. h i (omega arith) (omega arith)))

-- ---- a state

module _ (s : Ehci) where
  pub ranges_tell : in_ranges s ≡ true → Ranges s
  unfolding in_ranges rest_good machine_good interrupt_good doorbell_good
  ranges_tell e =
      let settings = both_tells (settings_good s.settings) _ e in
      let machine = both_tells (machine_good s) _ settings.1 in
      let interrupt = both_tells (interrupt_good s) _ machine.1 in
      let bell = both_tells (doorbell_good s) _ interrupt.1 in
      let owner = both_tells (owner_good s.owner s.settings.descriptors s.settings.endpoints) _ bell.1 in
      let owners = owner_tells s.owner s.settings.descriptors s.settings.endpoints owner.0 in
      let slots = both_tells (slots_good 0 32 s) true owner.1 in
      let running = both_tells (leb s.running 1) _ machine.0 in
      let step = both_tells (leb s.step 6) _ running.1 in
      let waited = both_tells (ltb s.waited s.settings.wait) _ step.1 in
      let address = both_tells (within s.address 1 128) true waited.1 in
      let enabled = both_tells (leb s.enabled 1) _ interrupt.0 in
      let pending = both_tells (eqb (without_bits s.pending 0x37) 0) _ enabled.1 in
      let masked = both_tells (eqb (without_bits s.masked 0x27) 0) true pending.1 in
      let doorbell = both_tells (leb s.doorbell 1) _ bell.0 in
      let noted = both_tells (leb s.noted s.doorbell) _ doorbell.1 in
      let unanswered = both_tells (within s.unanswered s.doorbell 32) true noted.1 in
      record {
        good = good_tells s.settings settings.0;
        running_flag = leb-true s.running 1 running.0;
        step_most = leb-true s.step 6 step.0;
        waited_below = ltb-true s.waited s.settings.wait waited.0;
        address_least = within_least s.address 1 128 address.0;
        address_most = within_most s.address 1 128 address.0;
        enabled_flag = leb-true s.enabled 1 enabled.0;
        pending_only = eqb-true (without_bits s.pending 0x37) 0 pending.0;
        masked_only = eqb-true (without_bits s.masked 0x27) 0 masked.0;
        doorbell_flag = leb-true s.doorbell 1 doorbell.0;
        noted_most = leb-true s.noted s.doorbell noted.0;
        unanswered_least = within_least s.unanswered s.doorbell 32 unanswered.0;
        unanswered_most = within_most s.unanswered s.doorbell 32 unanswered.0;
        owned = owners.0;
        unowned = owners.1;
        slots = λ k h. slots_tell s 0 32 slots.0 k (omega arith) (omega arith);
      }

  pub ranges_make : Ranges s → in_ranges s ≡ true
  unfolding in_ranges rest_good machine_good interrupt_good doorbell_good
  ranges_make r =
      rw (
        good_makes s.settings r.good,
        le-leb s.running 1 r.running_flag,
        le-leb s.step 6 r.step_most,
        lt-ltb s.waited s.settings.wait r.waited_below,
        within_makes s.address 1 128 r.address_least r.address_most,
        le-leb s.enabled 1 r.enabled_flag,
        eq-eqb (without_bits s.pending 0x37) 0 r.pending_only,
        eq-eqb (without_bits s.masked 0x27) 0 r.masked_only,
        le-leb s.doorbell 1 r.doorbell_flag,
        le-leb s.noted s.doorbell r.noted_most,
        within_makes s.unanswered s.doorbell 32 r.unanswered_least r.unanswered_most,
        owner_makes s.owner s.settings.descriptors s.settings.endpoints r.owned r.unowned,
        slots_make s 0 32 (λ k h h'. r.slots k (omega arith)),
      )
