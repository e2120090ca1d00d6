-- What the kinds of effect do to the doorbell, and to the endpoints of the slots.
use Prim.Native.Nat.{ℕ, ◌+◌, ◌-◌, ◌≤◌, ◌<◌}
use mathlib.Core.Bool.{Bool, true, false, not, ◌&&◌, cond}
use mathlib.Core.Path.{◌≡◌, refl, ap, ◌∙◌}
use native.Mathlib.Omega.{arith}
use borrow.Author.Tests.{eqb-false, le-leb, ltb-true}
use lib.Dec.{eqb, leb, ltb}
use lib.ListN.{get_or}
use Rattle.register.specs.Bits.{with_bits}
use Rattle.register.specs.Writes.{and_then, list_of, no_writes}
use Rattle.slot.specs.declared.slot.Slot.{Slot}
use Rattle.state.specs.Slots.{slot_at}
use Rattle.state.specs.State.{with_bell, with_boundaries}
use Rattle.state.specs.Plain.{Ehci}
use Rattle.pipe.specs.Endpoints.{decoded, endpoint_at, flag_number, pick_boundary, pipe_of, request_of}
use Rattle.pipe.specs.declared.endpoints.Endpoint.TheVariants.{Closed, Idle, Linked, Unlinking}
use Rattle.pipe.specs.declared.endpoints.Pipe.{Pipe}
use Rattle.pipe.specs.declared.endpoints.Request.{Request}
use Rattle.opening.specs.Opening.{fresh_state}
use Rattle.opening.proofs.OpenLaws.{fresh_slot}
use Rattle.controller.specs.declared.lent.Readings.{Readings}
use Rattle.schedule.specs.Bell.{advanced_of, fall_if, fallen_from, fallen_one, ring_of, rung_if, unlinked_of, some_ring}
use Rattle.schedule.specs.declared.bell.Bell.{Bell}
use Rattle.schedule.proofs.BellLaws.{command_clear, fallen_at, ring_set}
use Rattle.request.specs.Submit.{writes_with}
use Rattle.promises.proofs.effects.Effects.{Sides, besides}
use Rattle.promises.proofs.effects.EffectRanges.{lower}
use Rattle.promises.proofs.invariants.BellWaiting.{fallen}

-- ---- writes

pub silent_none : some_ring (list_of no_writes) ≡ false
unfolding no_writes
silent_none = refl

-- a submit's write of USBCMD is no ring
pub silent_submit : (readings : Readings) → some_ring (list_of (writes_with readings)) ≡ false
unfolding no_writes and_then
silent_submit readings = rw (command_clear (with_bits readings.command 0x31))

module _ (b : Bell) (command : ℕ) where
  rung_writes : (x : Bool) → some_ring (list_of (rung_if x b no_writes command).writes) ≡ x
  unfolding no_writes and_then
  rung_writes true = rw (ring_set command)
  rung_writes false = refl

  rung_doorbell : (x : Bool) → b.doorbell ≡ 0 → (rung_if x b no_writes command).bell.doorbell ≡ flag_number x
  rung_doorbell true e = refl
  rung_doorbell false e = e

  rung_noted : (x : Bool) → (rung_if x b no_writes command).bell.noted ≡ b.noted
  rung_noted true = refl
  rung_noted false = refl

  rung_unanswered : (x : Bool) → (rung_if x b no_writes command).bell.unanswered ≡ b.unanswered
  rung_unanswered true = refl
  rung_unanswered false = refl

-- a counted advance: rung again if unlinks remain
module _ (b : Bell) (command : ℕ) where
  abbrev again : Bool
  again = leb 1 (b.unanswered - 1)

  abbrev lowered : Bell
  lowered = record { noted = 0; doorbell = 0; unanswered = b.unanswered - 1 }

  pub advance_rings : some_ring (list_of (advanced_of b no_writes command).writes) ≡ again
  unfolding advanced_of ring_of
  advance_rings = rung_writes lowered command again

  pub advance_doorbell : (advanced_of b no_writes command).bell.doorbell ≡ flag_number again
  unfolding advanced_of ring_of
  advance_doorbell = rung_doorbell lowered command again refl

  pub advance_noted : (advanced_of b no_writes command).bell.noted ≡ 0
  unfolding advanced_of ring_of
  advance_noted = rung_noted lowered command again

  pub advance_unanswered : (advanced_of b no_writes command).bell.unanswered ≡ b.unanswered - 1
  unfolding advanced_of ring_of
  advance_unanswered = rung_unanswered lowered command again

-- one more unlink: rung if the doorbell is down, so it is up then
module _ (b : Bell) (command : ℕ) (flag : b.doorbell ≤ 1) where
  abbrev raised : Bell
  raised = record { noted = b.noted; doorbell = b.doorbell; unanswered = b.unanswered + 1 }

  must : (eqb b.doorbell 0 && leb 1 (b.unanswered + 1)) ≡ eqb b.doorbell 0
  must = rw (le-leb 1 (b.unanswered + 1) (omega arith)) (go (eqb b.doorbell 0))
    where
      go : (x : Bool) → (x && true) ≡ x
      go true = refl
      go false = refl

  pub unlink_rings : some_ring (list_of (unlinked_of b no_writes command).writes) ≡ eqb b.doorbell 0
  unfolding unlinked_of ring_of
  unlink_rings = rung_writes raised command (eqb b.doorbell 0 && leb 1 (b.unanswered + 1)) ∙ must

  pub unlink_doorbell : (unlinked_of b no_writes command).bell.doorbell ≡ 1
  unfolding unlinked_of ring_of
  unlink_doorbell = rw must (go (eqb b.doorbell 0) refl)
    where
      go : (x : Bool) → eqb b.doorbell 0 ≡ x → (rung_if x raised no_writes command).bell.doorbell ≡ 1
      go true e = refl
      go false e = omega (arith, eqb-false b.doorbell 0 e)

  pub unlink_noted : (unlinked_of b no_writes command).bell.noted ≡ b.noted
  unfolding unlinked_of ring_of
  unlink_noted = rung_noted raised command (eqb b.doorbell 0 && leb 1 (b.unanswered + 1))

  pub unlink_unanswered : (unlinked_of b no_writes command).bell.unanswered ≡ b.unanswered + 1
  unfolding unlinked_of ring_of
  unlink_unanswered = rung_unanswered raised command (eqb b.doorbell 0 && leb 1 (b.unanswered + 1))

-- ---- endpoints

pub besides_aside : (s : Ehci) (x : Sides) (k : ℕ) → endpoint_at (besides s x) k ≡ endpoint_at s k
unfolding endpoint_at slot_at
besides_aside s x k = refl

pub bell_aside : (s : Ehci) (n d u k : ℕ) → endpoint_at (with_bell s n d u) k ≡ endpoint_at s k
unfolding endpoint_at slot_at with_bell
bell_aside s n d u k = refl

-- a slot whose boundary falls
decoded_falls : (e : Slot) → decoded (lower e (fallen_one e.phase e.kind e.boundary)) ≡ fallen (decoded e)
unfolding decoded fallen_one
decoded_falls e = go (eqb e.phase 1) (eqb e.phase 2) (eqb e.phase 3) (eqb e.kind 3)
  where
    p : Pipe
    p = pipe_of e

    r : Request
    r = request_of e

    go : (one two three frames : Bool)
        → cond one (Idle p) (cond two (Linked p r) (cond three (Unlinking p r (pick_boundary frames (fall_if (three && not frames) e.boundary))) Closed))
        ≡ fallen (cond one (Idle p) (cond two (Linked p r) (cond three (Unlinking p r (pick_boundary frames e.boundary)) Closed)))
    go true two three frames = refl
    go false true three frames = refl
    go false false true true = refl
    go false false true false = refl
    go false false false frames = refl

-- a counted advance: every count falls
module _ (s : Ehci) (n d u : ℕ) where
  abbrev counted : Ehci
  counted = with_boundaries (with_bell s n d u) (fallen_from 0 32 s.phases s.kinds s.boundaries)

  lowered_slot : (k : ℕ) → k < 32 → slot_at counted k ≡ lower (slot_at s k) (fallen_one (slot_at s k).phase (slot_at s k).kind (slot_at s k).boundary)
  unfolding slot_at with_boundaries with_bell
  lowered_slot k h = ap (lower (slot_at s k)) (fallen_at 0 32 k s.phases s.kinds s.boundaries h ∙ at_zero)
    where
      at_zero : fallen_one (get_or s.phases (0 + k) 0) (get_or s.kinds (0 + k) 0) (get_or s.boundaries (0 + k) 0) ≡ fallen_one (get_or s.phases k 0) (get_or s.kinds k 0) (get_or s.boundaries k 0)
      at_zero = ap (λ (i : ℕ). fallen_one (get_or s.phases i 0) (get_or s.kinds i 0) (get_or s.boundaries i 0)) (omega arith)

  pub all_fall : (k : ℕ) → endpoint_at counted k ≡ fallen (endpoint_at s k)
  unfolding endpoint_at
  all_fall k = go (ltb k 32) refl
    where
      go : (b : Bool) → ltb k 32 ≡ b → cond b (decoded (slot_at counted k)) Closed ≡ fallen (cond b (decoded (slot_at s k)) Closed)
      go true e = ap decoded (lowered_slot k (ltb-true k 32 e)) ∙ decoded_falls (slot_at s k)
      go false e = refl

-- after an opening every slot is closed
pub fresh_closed : (s : _) (k : ℕ) → endpoint_at (fresh_state s) k ≡ Closed
unfolding endpoint_at decoded
fresh_closed s k = go (ltb k 32) refl
  where
    go : (b : Bool) → ltb k 32 ≡ b → cond b (decoded (slot_at (fresh_state s) k)) Closed ≡ Closed
    go true e = ap decoded (fresh_slot s k (ltb-true k 32 e))
    go false e = refl
