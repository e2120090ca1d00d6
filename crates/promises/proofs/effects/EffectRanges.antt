-- The interrupt calls keep a state in its ranges.
use Prim.Native.Nat.{ℕ, ◌-◌, ◌^◌, ◌≤◌, ◌<◌, min}
use mathlib.Core.Bool.{Bool, true, false, not, ◌&&◌}
use mathlib.Core.Path.{◌≡◌, refl, sym, ◌∙◌}
use native.Mathlib.Omega.{arith}
use native.Mathlib.Nat.{zero-add, zero-div}
use lib.Dec.{lit<, eqb, leb}
use borrow.Author.Tests.{eqb-true, eqb-false, leb-true, ne_eqb}
use lib.Bits.{and_le_l, and_le_r, or_add_and}
use Rattle.register.specs.Bits.{bit, only_bits, with_bits, without_bits}
use Rattle.register.proofs.BitLaws.{only_bit, same_word, with_bit, without_bit}
use Rattle.slot.specs.Ranges.{slot_good}
use Rattle.slot.specs.declared.slot.Slot.{Slot}
use Rattle.slot.proofs.SlotLaws.{Bounded, NoRequest, Phase, slot_makes, slot_tells}
use Rattle.state.specs.Slots.{slot_at}
use Rattle.state.specs.State.{with_bell, with_boundaries, with_interrupt}
use Rattle.state.specs.Plain.{Ehci}
use Rattle.state.proofs.RangesLaws.{Ranges}
use Rattle.schedule.specs.Bell.{advanced_of, bell_of, fall_if, fallen_one, ring_of}
use Rattle.schedule.specs.declared.bell.Bell.{Bell}
use Rattle.schedule.proofs.BellLaws.{fallen_at}
use Rattle.register.specs.Writes.{no_writes}
use Rattle.interrupt.specs.Interrupts.{with_rung}

-- ---- words that have no bit but those of a mask

zero_bit : (i : ℕ) → bit 0 i ≡ 0
zero_bit i = rw (zero-div (2 ^ i))

module _ (m : ℕ) (hm : m < 2 ^ 32) where
  only_at : (x i : ℕ) → i < 32 → without_bits x m ≡ 0 → min (bit x i) (1 - bit m i) ≡ 0
  only_at x i hi e = sym (without_bit x m i hm hi) ∙ rw e (zero_bit i)

  low : (x : ℕ) → without_bits x m < 2 ^ 32
  unfolding without_bits
  low x = omega (arith, and_le_r x (2 ^ 32 - 1 - m))

  only_by : (x : ℕ) → ((i : ℕ) → i < 32 → min (bit x i) (1 - bit m i) ≡ 0) → without_bits x m ≡ 0
  only_by x h =
      same_word 32 (without_bits x m) 0 (low x) (lit< tt) (λ i hi. without_bit x m i hm hi ∙ h i hi ∙ sym (zero_bit i))

  -- more bits of the mask join
  pub only_joins : (x v : ℕ) → without_bits x m ≡ 0 → without_bits (with_bits x (only_bits v m)) m ≡ 0
  only_joins x v e =
      only_by (with_bits x (only_bits v m)) (λ i hi. omega (arith, with_bit x (only_bits v m) i, only_bit v m i, only_at x i hi e))

  -- bits go
  pub only_falls : (x c : ℕ) → c < 2 ^ 32 → without_bits x m ≡ 0 → without_bits (without_bits x c) m ≡ 0
  only_falls x c hc e = only_by (without_bits x c) (λ i hi. omega (arith, without_bit x c i hc hi, only_at x i hi e))

  pub only_none : without_bits 0 m ≡ 0
  only_none = only_by 0 (λ i hi. omega (arith, zero_bit i))

pub only_masked : (x p : ℕ) → without_bits x 0x27 ≡ 0 → without_bits (with_bits x (only_bits p 0x27)) 0x27 ≡ 0
only_masked x p e = only_joins 0x27 (lit< tt) x p e

-- what joins is not lost
pub joined_none : (x p : ℕ) → with_bits x p ≡ 0 → (x ≡ 0) × (p ≡ 0)
unfolding with_bits
joined_none x p e =
    (omega (arith, or_add_and x p, and_le_l x p, and_le_r x p, e), omega (arith, or_add_and x p, and_le_l x p, and_le_r x p, e))

-- ---- the interrupt fields

pub interrupt_keeps : (s : Ehci) (enabled pending masked : ℕ) → enabled ≤ 1 → without_bits pending 0x37 ≡ 0 → without_bits masked 0x27 ≡ 0
    → Ranges s → Ranges (with_interrupt s enabled pending masked)
unfolding with_interrupt slot_at
interrupt_keeps s enabled pending masked he hp hm r =
    record {
      good = r.good;
      running_flag = r.running_flag;
      step_most = r.step_most;
      waited_below = r.waited_below;
      address_least = r.address_least;
      address_most = r.address_most;
      enabled_flag = he;
      pending_only = hp;
      masked_only = hm;
      doorbell_flag = r.doorbell_flag;
      noted_most = r.noted_most;
      unanswered_least = r.unanswered_least;
      unanswered_most = r.unanswered_most;
      owned = r.owned;
      unowned = r.unowned;
      slots = r.slots;
    }

-- a note, where the doorbell is up
pub note_keeps : (s : Ehci) (n : ℕ) → n ≤ s.doorbell → Ranges s → Ranges (with_bell s n s.doorbell s.unanswered)
unfolding with_bell slot_at
note_keeps s n h r =
    record {
      good = r.good;
      running_flag = r.running_flag;
      step_most = r.step_most;
      waited_below = r.waited_below;
      address_least = r.address_least;
      address_most = r.address_most;
      enabled_flag = r.enabled_flag;
      pending_only = r.pending_only;
      masked_only = r.masked_only;
      doorbell_flag = r.doorbell_flag;
      noted_most = h;
      unanswered_least = r.unanswered_least;
      unanswered_most = r.unanswered_most;
      owned = r.owned;
      unowned = r.unowned;
      slots = r.slots;
    }

-- ---- the kind of a slot

pub kind_most : (s : Ehci) → Ranges s → (k : ℕ) → k < 32 → (slot_at s k).kind ≤ 3
kind_most s r k low = by (slot_tells s.settings.endpoints s.settings.limit k s.unanswered (slot_at s k) (r.slots k low)).by_phase
  where
    by : Phase (slot_at s k) s.unanswered → (slot_at s k).kind ≤ 3
    by (Phase.closed p k i n) = omega (arith, k)
    by (Phase.idle p o n) = o.most
    by (Phase.linked p o r d c b) = o.most
    by (Phase.unlinking p o r d c b) = o.most

-- ---- a counted advance

-- a slot whose boundary falls with the unlinks that are unanswered
abbrev pub lower : Slot → ℕ → Slot
lower e b =
    record {
      phase = e.phase;
      kind = e.kind;
      size = e.size;
      toggle = e.toggle;
      id = e.id;
      request = e.request;
      direction = e.direction;
      length = e.length;
      cancel = e.cancel;
      boundary = b;
    }

module _ (e : Slot) (u : ℕ) (some : 1 ≤ u) where
  abbrev fallen : Slot
  fallen = lower e (fallen_one e.phase e.kind e.boundary)

  stays : (e.phase ≡ 3 → ⊥) → fallen_one e.phase e.kind e.boundary ≡ e.boundary
  unfolding fallen_one
  stays h = rw (ne_eqb e.phase 3 h)

  falls : e.phase ≡ 3 → Bounded e.kind e.boundary u → Bounded e.kind (fallen_one e.phase e.kind e.boundary) (u - 1)
  unfolding fallen_one
  falls p b = by (eqb e.kind 3) refl
    where
      by : (t : Bool) → eqb e.kind 3 ≡ t → Bounded e.kind (fall_if (eqb e.phase 3 && not (eqb e.kind 3)) e.boundary) (u - 1)
      by true q = rw (p, q) (record { frame = λ k. b.frame k; advances = λ ne. absurd (ne (eqb-true e.kind 3 q)) })
      by false q =
          rw (p, q)
          (record {
            frame = λ k. absurd (eqb-false e.kind 3 q k);
            advances = λ ne. omega (arith, b.advances ne, some);
          })

  bare : NoRequest e → (e.phase ≡ 3 → ⊥) → NoRequest fallen
  bare n h =
      record {
        request_none = n.request_none;
        direction_none = n.direction_none;
        length_none = n.length_none;
        cancel_none = n.cancel_none;
        boundary_none = stays h ∙ n.boundary_none;
      }

  phase_falls : Phase e u → Phase fallen (u - 1)
  phase_falls (Phase.closed p k i n) = Phase.closed p k i (bare n (λ q. omega (arith, p, q)))
  phase_falls (Phase.idle p o n) = Phase.idle p o (bare n (λ q. omega (arith, p, q)))
  phase_falls (Phase.linked p o r d c b) = Phase.linked p o r d c (stays (λ q. omega (arith, p, q)) ∙ b)
  phase_falls (Phase.unlinking p o r d c b) = Phase.unlinking p o r d c (falls p b)

  pub slot_falls : (E limit k : ℕ) → slot_good E limit k u e ≡ true → slot_good E limit k (u - 1) fallen ≡ true
  slot_falls E limit k h =
      let g = slot_tells E limit k u e h in
      slot_makes E limit k (u - 1) fallen
      (record {
        id_least = g.id_least;
        closed_from_lem = g.closed_from_lem;
        size_none = g.size_none;
        size_open = g.size_open;
        toggle_none = g.toggle_none;
        toggle_flag = g.toggle_flag;
        by_phase = phase_falls g.by_phase;
      })

-- the doorbell after a counted advance: rung again if unlinks remain
pub advanced_bell : (b : Bell) (command : ℕ)
    → ((advanced_of b no_writes command).bell.noted ≡ 0) × ((advanced_of b no_writes command).bell.unanswered ≡ b.unanswered - 1)
    × ((advanced_of b no_writes command).bell.doorbell ≤ 1) × ((advanced_of b no_writes command).bell.doorbell ≤ b.unanswered - 1)
unfolding advanced_of ring_of
advanced_bell b command = go (leb 1 (b.unanswered - 1)) refl
  where
    down : Bell
    down = record { noted = 0; doorbell = 0; unanswered = b.unanswered - 1 }

    go : (t : Bool) → leb 1 (b.unanswered - 1) ≡ t
        → ((ring_of down no_writes command).bell.noted ≡ 0) × ((ring_of down no_writes command).bell.unanswered ≡ b.unanswered - 1)
        × ((ring_of down no_writes command).bell.doorbell ≤ 1) × ((ring_of down no_writes command).bell.doorbell ≤ b.unanswered - 1)
    go true q = rw q (refl, refl, omega arith, leb-true 1 (b.unanswered - 1) q)
    go false q = rw q (refl, refl, omega arith, omega arith)

pub counted_keeps : (s : Ehci) (command : ℕ) → (s.noted ≡ 0 → ⊥) → Ranges s → Ranges (with_rung s (advanced_of (bell_of s) no_writes command)).state
unfolding with_bell with_boundaries slot_at
counted_keeps s command some r =
    let b = advanced_bell (bell_of s) command in
    let u : 1 ≤ s.unanswered = omega (arith, some, r.noted_most, r.unanswered_least) in
    record {
      good = r.good;
      running_flag = r.running_flag;
      step_most = r.step_most;
      waited_below = r.waited_below;
      address_least = r.address_least;
      address_most = r.address_most;
      enabled_flag = r.enabled_flag;
      pending_only = r.pending_only;
      masked_only = r.masked_only;
      doorbell_flag = b.2;
      noted_most = omega (arith, b.0);
      unanswered_least = omega (arith, b.1, b.3);
      unanswered_most = omega (arith, b.1, r.unanswered_most);
      owned = r.owned;
      unowned = r.unowned;
      slots = λ k h.
          rw (b.1, fallen_at 0 32 k s.phases s.kinds s.boundaries h, zero-add k)
          (slot_falls (slot_at s k) s.unanswered u s.settings.endpoints s.settings.limit k (r.slots k h));
    }
