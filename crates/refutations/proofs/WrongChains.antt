-- Wrong machines, of which the statements on chains are refuted. Each does nothing but link and unlink, in a controller with
-- three slots; `plain` does it right, and on the same calls its walks are those that are told.
use Rattle.std.specs.Prelude.{Ok, Result}
use Prim.Native.Nat.{ℕ, ◌+◌, ◌-◌, ◌*◌, ◌/◌}
use mathlib.Core.Path.{◌≡◌, refl, ap}
use mathlib.Core.Bool.{Bool, true, false, cond}
use mathlib.Core.List.{List, [], ◌∷◌}
use native.Mathlib.Omega.{arith}
use lib.Dec.{eqb}
use lib.ListN.{get_or, length, replicate, set}
use Rattle.register.specs.Writes.{no_writes}
use Rattle.common.specs.declared.kinds.Direction.TheVariants.{Out}
use Rattle.common.specs.declared.kinds.EndpointType.{EndpointType}
use Rattle.common.specs.declared.kinds.EndpointType.TheVariants.{Bulk, Interrupt}
use Rattle.descriptor.specs.Heads.{qh_link, ring_head}
use Rattle.descriptor.specs.Descriptors.{terminated}
use Rattle.settings.specs.Settings.{apart_areas, area_good, each_good, no_overlap, numbers_good, settings_good}
use Rattle.common.proofs.TestLaws.{false_true}
use Rattle.settings.specs.declared.settings.Settings.{Settings}
use Rattle.common.specs.Kinds.{is_interrupt}
use Rattle.opening.specs.Opening.{opened_heads}
use Rattle.controller.specs.declared.lent.Readings.{Readings}
use Rattle.schedule.specs.Links.{attached_ring, link_word, ring_link, with_link_word, with_ring_link}
use Rattle.ehci.specs.declared.call.Call.{Call}
use Rattle.ehci.specs.declared.call.Call.TheVariants.{StartBringUp, BringUpStep, AllocateAddress, OpenEndpoint, Close, SetAddress, SetPacketSize, Submit, Writeback, Cancel, Collect, Acknowledge, Drain, Rearm, Enable, Disable, ClearHalt}
use Rattle.ehci.specs.declared.reply.Answered.TheVariants.{Done, Pending}
use Rattle.ehci.specs.declared.reply.Given.TheVariants.{Id, Nothing}
use Rattle.ehci.specs.Door.{Applied, applied}
use Rattle.promises.specs.Runs.{EveryRun, History, Machine, Opening, Rows, World, in_plain, history_of, moment, turn_by, world_of}
use Rattle.promises.specs.Walks.{frame_walk, ring_walk, walk_from}
use Rattle.promises.specs.Events.{Unlinks, event}
use Rattle.promises.specs.Uses.{frame_slots, ring_slots, uses}
use Rattle.promises.specs.Bells.{is_unlinks}
use Rattle.promises.specs.Chains.{ChainsWalked, NoDetachFails, head_places}
use Rattle.promises.proofs.invariants.Reached.{fresh_world, opens_fresh}
use Rattle.refutations.proofs.WrongRuns.{sized}
use Rattle.ehci.specs.declared.reply.Answered.{Answered}
use Rattle.common.specs.declared.answer.Refusal.{Refusal}

-- three slots
abbrev pub three : Settings
three = sized 1 3 1

-- ---- machines that link and unlink

-- how a head comes into a schedule, and how it leaves the ring
pub record Ways : Type 0 where
  pub ring : List ℕ → ℕ → ℕ → List ℕ
  pub frames : List ℕ → ℕ → List ℕ
  pub leave : List ℕ → ℕ → List ℕ

abbrev left : World → Result Answered Refusal → List ℕ → List ℕ → Applied
left w a heads frames =
    applied (record { state = w.state; answer = a; writes = no_writes }) w.rows.pool heads frames w.rows.setups

abbrev link_of : ℕ → ℕ
link_of k = qh_link (0x200000 + 128 * (k + 1))

abbrev joined : Bool → Ways → World → ℕ → Applied
joined true x w k =
    left w (Ok (Done (Id 1))) (with_link_word w.rows.heads k (get_or w.rows.frames 0 0)) (x.frames w.rows.frames (link_of k))
joined false x w k = left w (Ok (Done (Id 1))) (x.ring w.rows.heads k (link_of k)) w.rows.frames

abbrev idle : World → Applied
idle w = left w (Ok Pending) w.rows.heads w.rows.frames

abbrev linking : Ways → Machine in_plain
linking x w StartBringUp = idle w
linking x w (BringUpStep v) = idle w
linking x w AllocateAddress = idle w
linking x w (OpenEndpoint e) = idle w
linking x w (Close k) = idle w
linking x w (SetAddress k a) = idle w
linking x w (SetPacketSize k size) = idle w
linking x w (Submit k r readings) = joined (is_interrupt r.kind) x w k
linking x w (Writeback place token) = idle w
linking x w (Cancel k id readings) = left w (Ok (Done Nothing)) (x.leave w.rows.heads k) w.rows.frames
linking x w (Collect k id readings) = idle w
linking x w (Acknowledge v) = idle w
linking x w (Drain v) = idle w
linking x w Rearm = idle w
linking x w Enable = idle w
linking x w Disable = idle w
linking x w (ClearHalt k) = idle w

-- first in the ring, in every frame entry; the ring head's link skips the first head
abbrev plainly : Ways
plainly =
    record {
      ring = λ h k link. attached_ring h k link;
      frames = λ f link. replicate 1024 link;
      leave = λ h k. with_ring_link h (link_word h k);
    }

abbrev pub plain : Machine in_plain
plain = linking plainly

-- behind slot 0's head, where one is in the ring
abbrev appends : Machine in_plain
appends =
    linking
    (record {
      ring = λ h k link. cond (eqb (ring_link h) 0x200002) (attached_ring h k link) (with_link_word (with_link_word h k (link_word h 0)) 0 link);
      frames = plainly.frames;
      leave = plainly.leave;
    })

-- an unlink takes the next head along
abbrev drops : Machine in_plain
drops =
    linking
    (record {
      ring = plainly.ring;
      frames = plainly.frames;
      leave = λ h k. with_ring_link h (get_or h (17 * ((link_word h k - 0x200002) / 128)) 0);
    })

-- an unlink leaves the head where it is
abbrev keeps : Machine in_plain
keeps = linking (record { ring = plainly.ring; frames = plainly.frames; leave = λ h k. h })

-- an interrupt head is linked in frame entry 0 alone
abbrev once : Machine in_plain
once = linking (record { ring = plainly.ring; frames = λ f link. set f 0 link; leave = plainly.leave })

-- ---- runs

abbrev reading : Readings
reading = record { command = 0; frame = 0; overlay = 0 }

abbrev pub asks : EndpointType → ℕ → Call
asks kind k = Submit k (record { kind = kind; direction = Out; setup = 0; address = 0; length = 0 }) reading

-- newest first: two requests; a third, and a cancel of it; an interrupt request
abbrev two : List Call
two = asks Bulk 1 ∷ asks Bulk 0 ∷ []

abbrev cancelled : List Call
cancelled = Cancel 2 1 reading ∷ asks Bulk 2 ∷ two

abbrev waiting : List Call
waiting = asks Interrupt 0 ∷ []

three_good : settings_good three ≡ true
unfolding settings_good numbers_good each_good no_overlap area_good apart_areas
three_good = refl

pub opening : Opening three (fresh_world three)
opening = opens_fresh three three_good

abbrev now : Machine in_plain → List Call → Rows
now m cs = (world_of m (fresh_world three) cs).rows

abbrev past : Machine in_plain → List Call → History
past m cs = history_of m (fresh_world three) cs

-- on these calls the right machine's walks are as told, and a cancel is seen
plain_right : (ring_walk three (now plain two) ≡ head_places (ring_slots three (past plain two)))
    × (ring_walk three (now plain cancelled) ≡ head_places (ring_slots three (past plain cancelled)))
    × (frame_walk three (now plain waiting) 1 ≡ head_places (frame_slots three (past plain waiting)))
    × (event three (turn_by (moment plain (world_of plain (fresh_world three) two)) (Cancel 1 1 reading)) ≡ Unlinks 1)
unfolding ring_walk frame_walk walk_from world_of history_of ring_slots frame_slots attached_ring opened_heads ring_head terminated
plain_right = (refl, refl, refl, refl)

pub appends_wrong : EveryRun ChainsWalked appends → ⊥
unfolding ring_walk walk_from world_of history_of ring_slots attached_ring opened_heads ring_head terminated
appends_wrong h =
    let first : ◌≡◌ {A = ℕ} 1 2 = ap (λ (l : List ℕ). get_or l 0 0) (h three (fresh_world three) opening two).ring in
    omega (arith, first)

pub drops_wrong : EveryRun ChainsWalked drops → ⊥
unfolding ring_walk walk_from world_of history_of ring_slots attached_ring opened_heads ring_head terminated
drops_wrong h =
    let first : ◌≡◌ {A = ℕ} 1 2 = ap (λ (l : List ℕ). get_or l 0 0) (h three (fresh_world three) opening cancelled).ring in
    omega (arith, first)

pub once_wrong : EveryRun ChainsWalked once → ⊥
unfolding frame_walk walk_from world_of history_of frame_slots opened_heads ring_head terminated
once_wrong h =
    let met : ◌≡◌ {A = ℕ} 0 1 = ap (λ (l : List ℕ). length l) ((h three (fresh_world three) opening waiting).frames 1 (omega arith)) in
    omega (arith, met)

-- what it answers is right; that no head leaves is seen
pub keeps_wrong : EveryRun NoDetachFails keeps → ⊥
unfolding ring_walk frame_walk walk_from world_of history_of ring_slots uses attached_ring opened_heads ring_head terminated
keeps_wrong h =
    let e = (h three (fresh_world three) opening two).0.left_the_ring reading refl in
    false_true (ap is_unlinks e)
