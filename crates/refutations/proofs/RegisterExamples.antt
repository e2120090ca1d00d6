-- What the history says of the registers and of ids, after a few calls by hand. Newest first.
use Rattle.std.specs.Prelude.{Err, Ok, Result, Some}
use Prim.Native.Nat.{ℕ}
use mathlib.Core.Bool.{true, false}
use mathlib.Core.List.{[], ◌∷◌}
use mathlib.Core.Path.{◌≡◌, refl}
use Rattle.register.specs.Bits.{any_of, only_bits, with_bits, without_bits}
use Rattle.register.specs.Writes.{write_of}
use Rattle.common.specs.declared.kinds.Direction.TheVariants.{Out}
use Rattle.common.specs.declared.kinds.EndpointType.TheVariants.{Bulk}
use Rattle.settings.specs.declared.settings.Settings.{Settings}
use Rattle.common.specs.declared.answer.Refusal.TheVariants.{InvalidParameter, NoMemory, Timeout}
use Rattle.ehci.specs.declared.call.Call.{Call}
use Rattle.ehci.specs.declared.call.Call.TheVariants.{Acknowledge, BringUpStep, Close, Drain, Enable, OpenEndpoint, Rearm, StartBringUp, Submit}
use Rattle.ehci.specs.declared.call.InterruptReadings.{InterruptReadings}
use Rattle.ehci.specs.declared.reply.Answered.TheVariants.{Done}
use Rattle.interrupt.specs.declared.answers.Event.TheVariants as E
use Rattle.ehci.specs.declared.reply.Given.TheVariants.{Event, Id, Next, Nothing, Slot, Yes}
use Rattle.promises.specs.Runs.{History, Rows, Turn}
use Rattle.promises.specs.Registers.{access_of, acknowledge_writes, acknowledged, event_in, flag_in, masked_in, pending_in, read_in, step_writes, writes_for}
use Rattle.promises.specs.Ids.{following, next_id}
use Rattle.ehci.specs.declared.reply.Answered.{Answered}
use Rattle.common.specs.declared.answer.Refusal.{Refusal}

module _ (s : Settings) (rows : Rows) where
  abbrev turn : Call → Result Answered Refusal → Turn
  turn c a = record { call = c; answer = a; wrote = []; before = rows; after = rows }

  abbrev reading : ℕ → InterruptReadings
  reading status = record { status = status; interrupts = 0x27; flag = true; again = true }

  -- ---- acknowledged 0x24, with a bit that is none of 0x37; drained twice; then nothing is left

  abbrev heard : History
  heard = turn (Acknowledge (reading 0x102C)) (Ok (Done Yes)) ∷ []

  heard_bits : (acknowledged (reading 0x102C) ≡ 0x24) × (pending_in heard ≡ 0x24) × (masked_in heard ≡ 0x24) × (event_in (pending_in heard) ≡ 1 ∷ 0 ∷ [])
  unfolding pending_in masked_in only_bits with_bits any_of
  heard_bits = (refl, refl, refl, refl)

  abbrev drained : History
  drained = turn (Drain 0x80031) (Ok (Done (Event E.PortChange))) ∷ heard

  drained_bits : (pending_in drained ≡ 0x20) × (masked_in drained ≡ 0x24) × (event_in (pending_in drained) ≡ 2 ∷ 1 ∷ [])
  unfolding pending_in masked_in only_bits with_bits without_bits any_of
  drained_bits = (refl, refl, refl)

  abbrev empty : History
  empty = turn (Drain 0x80031) (Ok (Done (Event E.TransferActivity))) ∷ drained

  empty_bits : (pending_in empty ≡ 0) × (event_in (pending_in empty) ≡ 0 ∷ 0 ∷ [])
  unfolding pending_in only_bits with_bits without_bits any_of
  empty_bits = (refl, refl)

  -- a refused acknowledgment joins nothing; host system error alone is Stopped
  refused_bits : pending_in (turn (Acknowledge (reading 0x24)) (Err InvalidParameter) ∷ []) ≡ 0
  unfolding pending_in
  refused_bits = refl

  stopped : event_in 0x10 ≡ 3 ∷ 0 ∷ []
  unfolding any_of
  stopped = refl

  -- ---- what an acknowledgment writes: by the first flag; again, by the second, where they differ; nothing where nothing is read

  writes_once : acknowledge_writes (reading 0x24) 0x24 ≡ write_of 4 0x24 ∷ write_of 8 0x03 ∷ []
  unfolding only_bits without_bits
  writes_once = refl

  writes_again : acknowledge_writes (record { status = 0x24; interrupts = 0x27; flag = false; again = true }) 0x24 ≡ write_of 4 0x24 ∷ write_of 8 0 ∷ write_of 8 0x03 ∷ []
  unfolding only_bits without_bits
  writes_again = refl

  writes_off : acknowledge_writes (record { status = 0x24; interrupts = 0x27; flag = true; again = false }) 0x24 ≡ write_of 4 0x24 ∷ write_of 8 0x03 ∷ write_of 8 0 ∷ []
  unfolding only_bits without_bits
  writes_off = refl

  writes_none : acknowledge_writes (reading 0x1008) 0 ≡ []
  writes_none = refl

  -- ---- rearm: only where something is masked, and by the flag

  rearms : (writes_for s heard (turn Rearm (Ok (Done Nothing))) (access_of Rearm) ≡ write_of 8 0 ∷ [])
      × (writes_for s (turn Enable (Ok (Done Nothing)) ∷ heard) (turn Rearm (Ok (Done Nothing))) (access_of Rearm) ≡ write_of 8 0x27 ∷ [])
      × (writes_for s (turn Rearm (Ok (Done Nothing)) ∷ heard) (turn Rearm (Ok (Done Nothing))) (access_of Rearm) ≡ [])
  unfolding masked_in flag_in only_bits with_bits
  rearms = (refl, refl, refl)

  -- ---- bring-up by its readings: each of the six, and a reading that is not ready is repeated

  abbrev begun : History
  begun = turn StartBringUp (Ok (Done (Next (Some 0) 0))) ∷ turn Enable (Ok (Done Nothing)) ∷ []

  abbrev halting : History
  halting = turn (BringUpStep 0x80031) (Ok (Done (Next (Some 4) 0))) ∷ begun

  abbrev waiting : History
  waiting = turn (BringUpStep 0) (Ok (Done (Next (Some 4) 0))) ∷ halting

  abbrev resetting : History
  resetting = turn (BringUpStep 0x80000) (Ok (Done (Next (Some 0) 0))) ∷ turn (BringUpStep 0x1000) (Ok (Done (Next (Some 0) 0))) ∷ waiting

  readings : (read_in begun ≡ 1) × (flag_in begun ≡ false) × (read_in halting ≡ 2) × (read_in waiting ≡ 2) × (read_in resetting ≡ 4)
      × (read_in (turn (BringUpStep 0) (Err Timeout) ∷ halting) ≡ 0) × (read_in (turn StartBringUp (Ok (Done (Next (Some 0) 0))) ∷ resetting) ≡ 1)
  unfolding read_in flag_in any_of
  readings = (refl, refl, refl, refl, refl, refl, refl)

  -- USBCMD 0x80071 without 0x31 and without the doorbell; not ready, nothing; the set-up, USBSTS last; USBCMD or 0x31
  steps : (step_writes s 1 0x80071 ≡ write_of 0 0x80000 ∷ []) × (step_writes s 4 0x80002 ≡ [])
      × (step_writes s 4 0x80000 ≡ write_of 0x10 0 ∷ write_of 0x14 s.frames ∷ write_of 0x18 s.heads ∷ write_of 0x40 1 ∷ write_of 4 0x3F ∷ [])
      × (step_writes s 5 0x80040 ≡ write_of 0 0x80031 ∷ [])
  unfolding any_of with_bits without_bits
  steps = (refl, refl, refl, refl)

  -- ---- ids

  abbrev submits : Result Answered Refusal → Turn
  submits a = turn (Submit 0 (record { kind = Bulk; direction = Out; setup = 0; address = 0x500000; length = 1 }) (record { command = 0; frame = 0; overlay = 0 })) a

  abbrev opened : History
  opened = turn (OpenEndpoint (record { kind = Bulk; address = 1; number = 1; packet = 512 })) (Ok (Done (Slot 0))) ∷ []

  abbrev reopened : History
  reopened =
      turn (OpenEndpoint (record { kind = Bulk; address = 1; number = 1; packet = 512 })) (Ok (Done (Slot 0)))
      ∷ turn (Close 0) (Ok (Done Nothing))
      ∷ submits (Ok (Done (Id 1)))
      ∷ opened

  -- an accepted submit takes one, a refused one none, and another slot has its own; a slot that is opened again starts again
  ids : (next_id s 0 opened ≡ 1) × (next_id s 0 (submits (Ok (Done (Id 1))) ∷ opened) ≡ 2) × (next_id s 0 (submits (Err NoMemory) ∷ opened) ≡ 1)
      × (next_id s 1 (submits (Ok (Done (Id 1))) ∷ opened) ≡ 1) × (next_id s 0 reopened ≡ 1)
  unfolding next_id
  ids = (refl, refl, refl, refl, refl)

  turns_over : (following 18446744073709551614 ≡ 18446744073709551615) × (following 18446744073709551615 ≡ 1)
  turns_over = (refl, refl)
