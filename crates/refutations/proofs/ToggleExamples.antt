-- Toggles worked out by hand: what a history tells of each slot's.
use Rattle.std.specs.Prelude.{Err, Ok, Result, Some}
use Prim.Native.Nat.{ℕ}
use mathlib.Core.Path.{◌≡◌, refl}
use mathlib.Core.List.{[], ◌∷◌}
use Rattle.common.specs.declared.answer.Refusal.TheVariants.{InvalidEndpoint, QueueFull}
use Rattle.common.specs.declared.kinds.EndpointType.TheVariants.{Bulk, Control, Interrupt}
use Rattle.descriptor.specs.Descriptors.{terminated}
use Rattle.descriptor.specs.Heads.{ring_head}
use Rattle.opening.specs.Opening.{fresh_state, opened_heads}
use Rattle.settings.specs.declared.settings.Settings.{Settings}
use Rattle.ehci.specs.declared.call.Call.{Call}
use Rattle.ehci.specs.declared.call.Call.TheVariants.{ClearHalt, Close, Collect, OpenEndpoint, SetAddress, SetPacketSize, StartBringUp}
use Rattle.ehci.specs.declared.reply.Answered.TheVariants.{Cancelled, Done, Failed, Pending}
use Rattle.ehci.specs.declared.reply.Given.TheVariants.{Length, Next, Nothing, Slot}
use Rattle.promises.specs.Runs.{History, Rows, Turn}
use Rattle.promises.specs.Toggles.{toggle_for, toggle_in}
use Rattle.promises.specs.Walks.{frame_walk, ring_walk, walk_from}
use Rattle.promises.proofs.invariants.Reached.{fresh_world}
use Rattle.refutations.proofs.WrongRuns.{sized}
use Rattle.ehci.specs.declared.reply.Answered.{Answered}
use Rattle.common.specs.declared.answer.Refusal.{Refusal}

abbrev two : Settings
two = sized 2 2 1000

abbrev rows : Rows
rows = (fresh_world two).rows

abbrev turn : Call → Result Answered Refusal → Turn
turn c a = record { call = c; answer = a; wrote = []; before = rows; after = rows }

abbrev opens : ℕ → Turn
opens k = turn (OpenEndpoint (record { kind = Bulk; address = 1; number = 1; packet = 512 })) (Ok (Done (Slot k)))

abbrev collects : ℕ → ℕ → Result Answered Refusal → Turn
collects k overlay a = turn (Collect k 1 (record { command = 0; frame = 0; overlay = overlay })) a

-- newest first; one packet was read, so that DATA1 is next (USB 8.6)
abbrev odd : History
odd = collects 0 0x80000D00 (Ok (Done (Length 512 0))) ∷ opens 0 ∷ []

-- 0 at opening, 1 after an odd number, 0 after an even one; of the slot alone
counted : (toggle_in two 0 (opens 0 ∷ []) ≡ 0) × (toggle_in two 0 odd ≡ 1) × (toggle_in two 1 odd ≡ 0)
    × (toggle_in two 0 (collects 0 0x7FFFFFFF (Ok (Done (Length 1024 0))) ∷ odd) ≡ 0)
unfolding toggle_in
counted = (refl, refl, refl, refl)

-- 10 and 11 keep it too
passing : (toggle_in two 0 (collects 0 0xFFFFFFFF (Ok Cancelled) ∷ opens 0 ∷ []) ≡ 1) × (toggle_in two 0 (collects 0 0x80000040 (Ok (Failed 0x40)) ∷ opens 0 ∷ []) ≡ 1)
unfolding toggle_in
passing = (refl, refl)

-- 9 and 3 keep nothing
waiting : (toggle_in two 0 (collects 0 0x80000D00 (Ok Pending) ∷ opens 0 ∷ []) ≡ 0) × (toggle_in two 0 (collects 0 0xD00 (Ok Pending) ∷ odd) ≡ 1)
    × (toggle_in two 0 (collects 0 0xD00 (Err InvalidEndpoint) ∷ odd) ≡ 1)
unfolding toggle_in ring_walk frame_walk walk_from fresh_state opened_heads ring_head terminated
waiting = (refl, refl, refl)

-- cleared, closed, opened anew; a clear-halt that is refused leaves it, and so do the other calls on an endpoint
cleared : (toggle_in two 0 (turn (ClearHalt 0) (Ok (Done Nothing)) ∷ odd) ≡ 0) × (toggle_in two 0 (turn (ClearHalt 1) (Ok (Done Nothing)) ∷ odd) ≡ 1)
    × (toggle_in two 0 (turn (ClearHalt 0) (Err QueueFull) ∷ odd) ≡ 1) × (toggle_in two 0 (turn (Close 0) (Ok (Done Nothing)) ∷ odd) ≡ 0)
    × (toggle_in two 0 (opens 0 ∷ turn (Close 0) (Ok (Done Nothing)) ∷ odd) ≡ 0)
unfolding toggle_in
cleared = (refl, refl, refl, refl, refl)

left : (toggle_in two 0 (turn (SetPacketSize 0 64) (Ok (Done Nothing)) ∷ odd) ≡ 1) × (toggle_in two 0 (turn (SetAddress 0 5) (Ok (Done Nothing)) ∷ odd) ≡ 1)
    × (toggle_in two 0 (turn StartBringUp (Ok (Done (Next (Some 4) 0))) ∷ odd) ≡ 1)
unfolding toggle_in
left = (refl, refl, refl)

-- control has none
used : (toggle_for Bulk 1 ≡ 1) × (toggle_for Interrupt 1 ≡ 1) × (toggle_for Control 1 ≡ 0) × (toggle_for Bulk 0 ≡ 0)
used = (refl, refl, refl, refl)
