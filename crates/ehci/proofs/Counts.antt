-- How many register writes the calls' own definitions make: at most six each.
use Rattle.std.specs.Prelude.{ℕ, ◌≤◌, Bool, true, false, cond, eqb}
use native.Mathlib.Omega.{arith}
use Rattle.register.specs.Writes.{and_then, no_writes}
use Rattle.common.specs.declared.kinds.EndpointType.{EndpointType}
use Rattle.common.specs.declared.kinds.EndpointType.TheVariants.{Control, Isochronous, Bulk, Interrupt}
use Rattle.state.specs.Plain.{Ehci}
use Rattle.controller.specs.declared.lent.Readings.{Readings}
use Rattle.schedule.specs.Bell.{advanced_of, must_ring, ring_of, rung_if, unlinked_of}
use Rattle.schedule.specs.Links.{same}
use Rattle.schedule.specs.declared.bell.Bell.{Bell}
use Rattle.collection.specs.Unlinks.{bounded_of}
use Rattle.interrupt.specs.Interrupts.{acknowledge_writes, count_if, counted_of, mask_word}
use Rattle.bring_up.specs.BringUp.{set_up, stage_writes}
use Rattle.bring_up.specs.declared.stage.Stage.{Stage}
use Rattle.bring_up.specs.declared.stage.Stage.TheVariants.{Stop, Halting, Reset, Resetting, Run, Starting}

pub none_few : no_writes.count ≤ 6
unfolding no_writes
none_few = omega arith

pub one_few : (offset value : ℕ) → (and_then no_writes offset value).count ≤ 6
unfolding and_then no_writes
one_few offset value = omega arith

-- a ring is one write
ring_few : (b : Bell) (command : ℕ) → (ring_of b no_writes command).writes.count ≤ 6
unfolding ring_of
ring_few b command = by (must_ring b)
  where
    by : (m : Bool) → (rung_if m b no_writes command).writes.count ≤ 6
    by true = one_few 0 _
    by false = none_few

asked_few : (b : Bell) (command : ℕ) → (unlinked_of b no_writes command).writes.count ≤ 6
unfolding unlinked_of
asked_few b command = ring_few _ command

pub bounded_few : (b : Bell) (kind : EndpointType) (readings : Readings) → (bounded_of b kind readings).rung.writes.count ≤ 6
unfolding bounded_of
bounded_few b Control readings = asked_few b readings.command
bounded_few b Isochronous readings = asked_few b readings.command
bounded_few b Bulk readings = asked_few b readings.command
bounded_few b Interrupt readings = none_few

pub counted_few : (s : Ehci) (command : ℕ) → (counted_of s command).writes.count ≤ 6
unfolding counted_of advanced_of
counted_few s command = by (eqb s.noted 0)
  where
    by : (b : Bool) → (count_if b s command).writes.count ≤ 6
    by true = none_few
    by false = ring_few _ command

pub acknowledged_few : (p interrupts : ℕ) (flag again : Bool) → (acknowledge_writes p interrupts flag again).count ≤ 6
unfolding acknowledge_writes and_then no_writes
acknowledged_few p interrupts flag again = by (same flag again)
  where
    by : (b : Bool)
        → (cond b
        (and_then (and_then no_writes 4 p) 8 (mask_word p interrupts flag))
        (and_then (and_then (and_then no_writes 4 p) 8 (mask_word p interrupts flag)) 8 (mask_word p interrupts again))).count
        ≤ 6
    by true = omega arith
    by false = omega arith

set_up_few : (frames heads : ℕ) → (set_up frames heads).count ≤ 6
unfolding set_up and_then no_writes
set_up_few frames heads = omega arith

pub stage_few : (stage : Stage) (v frames heads : ℕ) → (stage_writes stage v frames heads).count ≤ 6
stage_few Stop v frames heads = one_few 0 _
stage_few Halting v frames heads = none_few
stage_few Reset v frames heads = one_few 0 _
stage_few Resetting v frames heads = set_up_few frames heads
stage_few Run v frames heads = one_few 0 _
stage_few Starting v frames heads = none_few
