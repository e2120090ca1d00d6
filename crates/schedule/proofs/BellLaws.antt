-- What the doorbell's numbers mean: the relative count is 01's number minus the answered ones; only a ring writes 0x40; the
-- distance of two FRINDEX readings.
use Rattle.std.specs.Prelude.{◌≡◌, ℕ, zero, suc, ◌+◌, ◌-◌, ◌<◌, ◌≤◌, List, get_or}
use native.Mathlib.Nat.{add-zero}
use native.Mathlib.Omega.{arith}
use borrow.Author.Tests.{ne_eqb}
use lib.Dec.{lit<}
use Rattle.register.specs.Bits.{bit}
use Rattle.register.proofs.BitLaws.{with_bit, without_bit}
use Rattle.schedule.specs.Bell.{command_word, ring_word, fallen_one, fallen_from, distance}

-- ---- unlinks by their numbers: `asked` so far, `answered` of them

-- an unlink's number is one more than those asked; its boundary, those unanswered with itself, is its number less the answered
pub first_count : (asked answered unanswered : ℕ) → asked ≡ answered + unanswered → unanswered + 1 ≡ (asked + 1) - answered
first_count asked answered unanswered e = omega arith

-- each advance answers one more, and the count of every waiting control or bulk request falls with it
pub count_falls : (number answered boundary kind : ℕ) → boundary ≡ number - answered → (kind ≡ 3 → ⊥)
    → fallen_one 3 kind boundary ≡ number - (answered + 1)
unfolding fallen_one
count_falls number answered boundary kind e ne = rw (ne_eqb kind 3 ne) (omega arith)

-- "passed when answered unlinks reach its number": when nothing is left to wait for
pub count_passed : (number answered boundary : ℕ) → boundary ≡ number - answered → (boundary ≡ 0 → number ≤ answered) × (number ≤ answered → boundary ≡ 0)
count_passed number answered boundary e = (λ z. omega arith, λ l. omega arith)

-- slot by slot
pub fallen_at : (k n i : ℕ) (p q b : List ℕ) → i < n
    → get_or (fallen_from k n p q b) i 0 ≡ fallen_one (get_or p (k + i) 0) (get_or q (k + i) 0) (get_or b (k + i) 0)
unfolding fallen_from
fallen_at k zero i p q b h = absurd (omega arith)
fallen_at k (suc n) zero p q b h = rw (add-zero k)
fallen_at k (suc n) (suc i) p q b h = rw moved (fallen_at (suc k) n i p q b (omega arith))
  where
    moved : k + suc i ≡ suc k + i
    moved = omega arith

-- ---- USBCMD

-- a write that is no ring has 0x40 clear and every other bit as it was given
pub command_clear : (v : ℕ) → bit (command_word v) 6 ≡ 0
unfolding command_word
command_clear v = rw (without_bit v 0x40 6 (lit< tt) (lit< tt)) (omega arith)

pub command_kept : (v i : ℕ) → i < 32 → bit 0x40 i ≡ 0 → bit (command_word v) i ≡ bit v i
unfolding command_word
command_kept v i h e = rw (without_bit v 0x40 i (lit< tt) h, e) (omega arith)

-- a ring has it set, and every other bit as it was read
pub ring_set : (v : ℕ) → bit (ring_word v) 6 ≡ 1
unfolding ring_word
ring_set v = rw (with_bit v 0x40 6) (omega arith)

pub ring_kept : (v i : ℕ) → bit 0x40 i ≡ 0 → bit (ring_word v) i ≡ bit v i
unfolding ring_word
ring_kept v i e = rw (with_bit v 0x40 i, e) (omega arith)

-- ---- FRINDEX

-- d micro-frames on, with d below a whole round, is the distance d
pub distance_is : (start d : ℕ) → start < 16384 → d < 16384 → distance start (start + d) ≡ d
distance_is start d h g = omega arith
