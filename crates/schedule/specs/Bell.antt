-- Document 01, "Unlinking and collecting": the doorbell, the advances, and the boundaries.
use Rattle.std.specs.Prelude.{ℕ, zero, suc, ◌+◌, ◌-◌, ◌%◌, Bool, true, false, not, ◌&&◌, ◌||◌, List, [], ◌∷◌, ◌==◌, nat_le, slice_index}
use Rattle.register.specs.Bits.{bit, with_bits, without_bits}
use Rattle.register.specs.Writes.{and_then}
use Rattle.register.specs.declared.writes.Write.{Write}
use Rattle.register.specs.declared.writes.Writes.{Writes}
use Rattle.state.specs.Plain.{Ehci}
use Rattle.schedule.specs.declared.bell.Bell.{Bell}
use Rattle.schedule.specs.declared.bell.Rung.{Rung}

-- ---- USBCMD: only a ring writes 0x40; every other write drops it

unfoldable pub command_word : ℕ → ℕ
command_word value = without_bits value 0x40

unfoldable pub ring_word : ℕ → ℕ
ring_word read = with_bits read 0x40

-- a ring: a write of USBCMD with the doorbell bit
abbrev pub is_ring : Write → Bool
is_ring w = w.offset == 0 && bit w.value 6 == 1

abbrev pub some_ring : List Write → Bool
some_ring [] = false
some_ring (w ∷ ws) = is_ring w || some_ring ws

-- ---- the doorbell

abbrev pub bell_of : Ehci → Bell
bell_of s = record { noted = s.noted; doorbell = s.doorbell; unanswered = s.unanswered }

-- it is down and an unlink is unanswered
abbrev pub must_ring : Bell → Bool
must_ring b = b.doorbell == 0 && nat_le 1 b.unanswered

abbrev pub rung_if : Bool → Bell → Writes → ℕ → Rung
rung_if true b writes command =
    record {
      bell = record { noted = b.noted; doorbell = 1; unanswered = b.unanswered };
      writes = and_then writes 0 (ring_word command);
    }
rung_if false b writes command = record { bell = b; writes = writes }

-- "If the doorbell is down and an unlink is unanswered, write USBCMD read value or 0x40; the doorbell is up."
unfoldable pub ring_of : Bell → Writes → ℕ → Rung
ring_of b writes command = rung_if (must_ring b) b writes command

-- one more unlink; its boundary is the number of those unanswered, itself among them
unfoldable pub unlinked_of : Bell → Writes → ℕ → Rung
unlinked_of b writes command =
    ring_of (record { noted = b.noted; doorbell = b.doorbell; unanswered = b.unanswered + 1 }) writes command

-- "A noted advance counts once: doorbell down, answered + 1, note cleared, rung again if unlinks remain."
unfoldable pub advanced_of : Bell → Writes → ℕ → Rung
advanced_of b writes command = ring_of (record { noted = 0; doorbell = 0; unanswered = b.unanswered - 1 }) writes command

-- ---- the boundaries

-- an unlinking control or bulk request has one advance less to wait for
abbrev pub fall_if : Bool → ℕ → ℕ
fall_if true boundary = boundary - 1
fall_if false boundary = boundary

unfoldable pub fallen_one : ℕ → ℕ → ℕ → ℕ
fallen_one phase kind boundary = fall_if (phase == 3 && not (kind == 3)) boundary

-- n slots, from slot k on
unfoldable pub fallen_from : ℕ → ℕ → List ℕ → List ℕ → List ℕ → List ℕ
fallen_from k zero phases kinds boundaries = []
fallen_from k (suc n) phases kinds boundaries =
    fallen_one (slice_index phases k) (slice_index kinds k) (slice_index boundaries k) ∷ fallen_from (suc k) n phases kinds boundaries

-- "passed when answered unlinks reach its number, or when (FRINDEX − start) mod 16384 ≥ 9"
abbrev pub frame_of : ℕ → ℕ
frame_of reading = reading % 16384

abbrev pub distance : ℕ → ℕ → ℕ
distance start reading = (frame_of reading + (16384 - start)) % 16384

abbrev pub frames_passed : ℕ → ℕ → Bool
frames_passed start reading = nat_le 9 (distance start reading)
