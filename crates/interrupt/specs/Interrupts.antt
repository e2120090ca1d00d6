-- Document 01, "Interrupts": acknowledge, drain, rearm, enable, disable.
use Rattle.std.specs.Prelude.{ℕ, Bool, true, false, cond, not, ◌&&◌, [], ◌∷◌, ◌==◌, Err, Ok, Result}
use Rattle.register.specs.Bits.{with_bits, without_bits, only_bits, any_of}
use Rattle.register.specs.Writes.{no_writes, and_then}
use Rattle.register.specs.declared.writes.Writes.{Writes}
use Rattle.token.specs.Tokens.{only_if}
use Rattle.common.specs.Answers.{refusal_number, first, settle}
use Rattle.state.specs.Ranges.{in_ranges}
use Rattle.state.specs.State.{with_interrupt, with_bell, with_boundaries}
use Rattle.common.specs.declared.answer.Refusal.TheVariants.{InvalidParameter}
use Rattle.state.specs.Plain.{Ehci}
use Rattle.schedule.specs.Bell.{advanced_of, bell_of, fallen_from}
use Rattle.schedule.specs.Links.{same}
use Rattle.schedule.specs.declared.bell.Rung.{Rung}
use Rattle.interrupt.specs.Plain.{Acknowledgement}
use Rattle.interrupt.specs.declared.answers.Event.TheVariants.{Nothing, PortChange, TransferActivity, Stopped}
use Rattle.interrupt.specs.Plain.{Drainage}
use Rattle.interrupt.specs.Plain.{Settled}
use Rattle.interrupt.specs.Plain.{Counted}
use Rattle.interrupt.specs.declared.drain.Cleared.{Cleared}
use Rattle.interrupt.specs.declared.answers.Event.{Event}
use Rattle.common.specs.declared.answer.Refusal.{Refusal}

-- ---- numbers and values of the answers

abbrev pub acknowledged_number : Result Bool Refusal → ℕ
acknowledged_number (Ok false) = 0
acknowledged_number (Ok true) = 0
acknowledged_number (Err r) = refusal_number r

abbrev pub drained_number : Result Event Refusal → ℕ
drained_number (Ok Nothing) = 0
drained_number (Ok PortChange) = 0
drained_number (Ok TransferActivity) = 0
drained_number (Ok Stopped) = 0
drained_number (Err r) = refusal_number r

-- PortChange says port 0, TransferActivity a count of 1
abbrev pub drained_value : Result Event Refusal → ℕ
drained_value (Ok Nothing) = 0
drained_value (Ok PortChange) = 0
drained_value (Ok TransferActivity) = 1
drained_value (Ok Stopped) = 0
drained_value (Err r) = 0

-- ---- acknowledge

-- USBINTR = read value without (p and 0x27), or 0 if the flag reading is off
unfoldable pub mask_word : ℕ → ℕ → Bool → ℕ
mask_word p interrupts flag = only_if flag (without_bits interrupts (only_bits p 0x27))

-- "Write USBSTS = p; USBINTR ..; if the second differs, write by that."
unfoldable pub acknowledge_writes : ℕ → ℕ → Bool → Bool → Writes
acknowledge_writes p interrupts flag again =
    cond (same flag again)
    (and_then (and_then no_writes 4 p) 8 (mask_word p interrupts flag))
    (and_then (and_then (and_then no_writes 4 p) 8 (mask_word p interrupts flag)) 8 (mask_word p interrupts again))

-- "An advance bit is noted only if the doorbell is up."
abbrev pub note_if : Bool → ℕ → ℕ
note_if true noted = 1
note_if false noted = noted

unfoldable pub noted_after : Ehci → ℕ → ℕ
noted_after s p = note_if (any_of p 0x20 && s.doorbell == 1) s.noted

-- "p joins pending, p and 0x27 joins masked"
unfoldable pub acknowledged_state : Ehci → ℕ → Ehci
acknowledged_state s p =
    with_bell (with_interrupt s s.enabled (with_bits s.pending p) (with_bits s.masked (only_bits p 0x27)))
    (noted_after s p) s.doorbell s.unanswered

-- p = USBSTS and 0x37; "0 does nothing and answers no, else yes"
abbrev pub heard_if : Bool → Ehci → ℕ → ℕ → Bool → Bool → Acknowledgement
heard_if true s p interrupts flag again = record { answer = Ok false; state = s; writes = no_writes }
heard_if false s p interrupts flag again =
    record { answer = Ok true; state = acknowledged_state s p; writes = acknowledge_writes p interrupts flag again }

unfoldable pub acknowledge_of : Ehci → ℕ → ℕ → Bool → Bool → Acknowledgement
acknowledge_of s status interrupts flag again =
    settle (first ((not (in_ranges s), InvalidParameter) ∷ []))
    (λ r. record { answer = Err r; state = s; writes = no_writes })
    (heard_if (only_bits status 0x37 == 0) s (only_bits status 0x37) interrupts flag again)

-- ---- drain

-- the state after a counted advance and what its ring wrote
abbrev pub with_rung : Ehci → Rung → Counted
with_rung s r =
    record {
      state = with_boundaries (with_bell s r.bell.noted r.bell.doorbell r.bell.unanswered)
          (fallen_from 0 32 s.phases s.kinds s.boundaries);
      writes = r.writes;
    }

abbrev pub count_if : Bool → Ehci → ℕ → Counted
count_if true s command = record { state = s; writes = no_writes }
count_if false s command = with_rung s (advanced_of (bell_of s) no_writes command)

-- "A noted advance counts once"
unfoldable pub counted_of : Ehci → ℕ → Counted
counted_of s command = count_if (s.noted == 0) s command

-- "Then port change: that bit cleared, PortChange 0. Else bits 0, 1, 5: cleared, TransferActivity 1. Else cleared, Stopped."
unfoldable pub cleared_of : ℕ → Cleared
cleared_of pending =
    cond (any_of pending 4) (record { event = PortChange; left = without_bits pending 4 })
    (cond (any_of pending 0x23) (record { event = TransferActivity; left = without_bits pending 0x23 })
    (record { event = Stopped; left = 0 }))

abbrev pub drain_if : Bool → Ehci → Counted → Cleared → Drainage
drain_if true s c t = record { answer = Ok Nothing; state = s; writes = no_writes }
drain_if false s c t =
    record {
      answer = Ok t.event;
      state = with_interrupt c.state c.state.enabled t.left c.state.masked;
      writes = c.writes;
    }

-- "nothing pending gives Nothing"
unfoldable pub drain_of : Ehci → ℕ → Drainage
drain_of s command =
    settle (first ((not (in_ranges s), InvalidParameter) ∷ []))
    (λ r. record { answer = Err r; state = s; writes = no_writes })
    (drain_if (s.pending == 0) s (counted_of s command) (cleared_of s.pending))

-- ---- rearm, enable, disable

abbrev pub refused_settled : Ehci → Settled
refused_settled s = record { answer = Err InvalidParameter; state = s; writes = no_writes }

abbrev pub settled_or : Bool → Ehci → Settled → Settled
settled_or true s new = refused_settled s
settled_or false s new = new

abbrev pub rearm_if : Bool → Ehci → Settled
rearm_if true s = record { answer = Ok tt; state = s; writes = no_writes }
rearm_if false s =
    record {
      answer = Ok tt;
      state = with_interrupt s s.enabled s.pending 0;
      writes = and_then no_writes 8 (only_if (not (s.enabled == 0)) 0x27);
    }

-- "if masked is not 0, clear it, write USBINTR 0x27 or 0 by the flag"
unfoldable pub rearm_of : Ehci → Settled
rearm_of s = settled_or (not (in_ranges s)) s (rearm_if (s.masked == 0) s)

-- "Enable and disable set the flag, write 0x27 and 0."
unfoldable pub enable_of : Ehci → Settled
enable_of s =
    settled_or (not (in_ranges s)) s
    (record { answer = Ok tt; state = with_interrupt s 1 s.pending s.masked; writes = and_then no_writes 8 0x27 })

unfoldable pub disable_of : Ehci → Settled
disable_of s =
    settled_or (not (in_ranges s)) s
    (record { answer = Ok tt; state = with_interrupt s 0 s.pending s.masked; writes = and_then no_writes 8 0 })
