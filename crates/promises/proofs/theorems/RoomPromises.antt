-- Room, exclusive places, chains of requests and coverage, of this port, over any calls from any accepted opening.
use mathlib.Core.List.{List}
use Rattle.settings.specs.declared.settings.Settings.{Settings}
use Rattle.ehci.specs.declared.call.Call.{Call}
use Rattle.promises.specs.Runs.{EveryRun, Opening, World, core, history_of, world_of}
use Rattle.promises.specs.Rooms.{ChainsLead, ExclusivePlaces, RoomExact}
use Rattle.promises.specs.Coverage.{Coverage}
use Rattle.promises.specs.Opened.{FieldsTied, SubmitVerdict}
use Rattle.promises.proofs.effects.EffectOf.{effect}
use Rattle.promises.proofs.invariants.Reached.{reached}
use Rattle.promises.proofs.invariants.Sound.{Sound}
use Rattle.promises.proofs.invariants.UseInv.{Held}
use Rattle.promises.proofs.invariants.UseHeld.{Kept, kept_keeps, kept_opens}
use Rattle.promises.proofs.invariants.OpenedInv.{Told, told_keeps, told_opens}
use Rattle.promises.proofs.invariants.OpenedVerdict.{held_is}
use Rattle.promises.proofs.theorems.RoomLaws.{room_holds, verdict_holds}
use Rattle.promises.proofs.theorems.ExclusiveLaws.{exclusive_holds, led_holds}
use Rattle.promises.proofs.theorems.CoverHolds.{covered_holds}
use Rattle.promises.specs.Packets.{HeadsSized}
use Rattle.promises.proofs.invariants.HeadInv.{Headed, headed_opens, headed_keeps}

-- the uses of every history are tied to its world
pub held : (s : Settings) (w : World) → Opening s w → (cs : List Call) → Sound s (world_of core w cs) × Held s (history_of core w cs) (world_of core w cs)
held s w o cs = let now = reached Kept kept_opens kept_keeps s w o cs in (now.0, now.1.1)

-- and so are its slots, and whether the controller runs
pub told : (s : Settings) (w : World) → Opening s w → (cs : List Call) → Sound s (world_of core w cs) × Told (history_of core w cs) (world_of core w cs).state
told = reached (λ s h w. Told h w.state) told_opens told_keeps

pub fields_tied : EveryRun FieldsTied core
fields_tied s w o cs =
    let now = (told s w o cs).1 in
    record { slots = now.slots; runs = now.runs; held = held_is s (history_of core w cs) (world_of core w cs) (held s w o cs).1 }

pub room_exact : EveryRun RoomExact core
room_exact s w o cs =
    let now = held s w o cs in
    room_holds s (history_of core w cs) (world_of core w cs) now.0 now.1 (told s w o cs).1

pub submit_verdict : EveryRun SubmitVerdict core
submit_verdict s w o cs =
    let now = held s w o cs in
    verdict_holds s (history_of core w cs) (world_of core w cs) now.0 now.1 (told s w o cs).1

pub exclusive_places : EveryRun ExclusivePlaces core
exclusive_places s w o cs = let now = held s w o cs in exclusive_holds core effect s (history_of core w cs) (world_of core w cs) now.0 now.1

pub chains_lead : EveryRun ChainsLead core
chains_lead s w o cs = led_holds s (history_of core w cs) (world_of core w cs) (held s w o cs).1

pub buffers_covered : EveryRun Coverage core
buffers_covered s w o cs = covered_holds core effect s (history_of core w cs) (world_of core w cs) (held s w o cs).0

pub heads_sized : EveryRun HeadsSized core
heads_sized s w o cs = (reached (λ s h w. Headed h w.rows) headed_opens headed_keeps s w o cs).1
