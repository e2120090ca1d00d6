-- Packets worked out by hand: those of so many bytes, those of a request's descriptors, and the sizes that a history tells.
use Rattle.std.specs.Prelude.{Err, Ok, Result}
use Prim.Native.Nat.{ℕ}
use mathlib.Core.Path.{◌≡◌, refl}
use mathlib.Core.List.{[], ◌∷◌}
use Rattle.common.specs.declared.answer.Refusal.TheVariants.{QueueFull}
use Rattle.common.specs.declared.kinds.Direction.TheVariants.{Out}
use Rattle.common.specs.declared.kinds.EndpointType.TheVariants.{Bulk, Control, Interrupt}
use Rattle.common.specs.declared.kinds.EndpointType.{EndpointType}
use Rattle.ehci.specs.declared.call.Call.{Call}
use Rattle.ehci.specs.declared.call.Call.TheVariants.{Close, OpenEndpoint, SetPacketSize}
use Rattle.ehci.specs.declared.reply.Answered.TheVariants.{Done}
use Rattle.ehci.specs.declared.reply.Given.TheVariants.{Nothing, Slot}
use Rattle.request.specs.declared.judge.TransferRequest.{TransferRequest}
use Rattle.promises.specs.Runs.{History, Rows, Turn}
use Rattle.promises.specs.Packets.{on_wire, packets_of}
use Rattle.promises.specs.Slots.{limit_in, size_in, slot_in}
use Rattle.promises.proofs.invariants.Reached.{fresh_world}
use Rattle.refutations.proofs.WrongRuns.{sized}
use Rattle.ehci.specs.declared.reply.Answered.{Answered}
use Rattle.common.specs.declared.answer.Refusal.{Refusal}

-- ---- packets of 512

-- none is one packet of none; a full one is not followed by another
few : (packets_of 512 0 ≡ 0 ∷ []) × (packets_of 512 1 ≡ 1 ∷ []) × (packets_of 512 512 ≡ 512 ∷ []) × (packets_of 512 513 ≡ 512 ∷ 1 ∷ [])
few = (refl, refl, refl, refl)

-- the lab: 3,000 bytes are five full packets and one of 440
lab : packets_of 512 3000 ≡ 512 ∷ 512 ∷ 512 ∷ 512 ∷ 512 ∷ 440 ∷ []
lab = refl

-- as descriptors of the working limit; and of 1,000 each, as before the order, where each ends in a packet of 488
after_order : on_wire 512 (512 ∷ 512 ∷ 512 ∷ 512 ∷ 512 ∷ 440 ∷ []) ≡ packets_of 512 3000
after_order = refl

before_order : on_wire 512 (1000 ∷ 1000 ∷ 1000 ∷ []) ≡ 512 ∷ 488 ∷ 512 ∷ 488 ∷ 512 ∷ 488 ∷ []
before_order = refl

-- ---- what a history tells

abbrev rows : Rows
rows = (fresh_world (sized 2 2 1000)).rows

abbrev turn : Call → Result Answered Refusal → Turn
turn c a = record { call = c; answer = a; wrote = []; before = rows; after = rows }

abbrev opens : EndpointType → ℕ → Turn
opens kind packet = turn (OpenEndpoint (record { kind = kind; address = 1; number = 1; packet = packet })) (Ok (Done (Slot 0)))

-- newest first: opened with 512; set to 5, which is raised; a set that is refused; closed; opened again with 1000
abbrev early : History
early = turn (SetPacketSize 0 5) (Ok (Done Nothing)) ∷ opens Bulk 512 ∷ []

abbrev late : History
late = opens Interrupt 1000 ∷ turn (Close 0) (Ok (Done Nothing)) ∷ turn (SetPacketSize 0 64) (Err QueueFull) ∷ early

sizes : (size_in 0 (opens Bulk 512 ∷ []) ≡ 512) × (size_in 0 early ≡ 8) × (size_in 1 early ≡ 0) × (size_in 0 late ≡ 1000)
unfolding slot_in
sizes = (refl, refl, refl, refl)

refused_none : (size_in 0 (turn (SetPacketSize 0 64) (Err QueueFull) ∷ early) ≡ 8) × (size_in 0 (turn (Close 0) (Ok (Done Nothing)) ∷ early) ≡ 0)
unfolding slot_in
refused_none = (refl, refl)

abbrev asks : EndpointType → TransferRequest
asks kind = record { kind = kind; direction = Out; setup = 0; address = 0; length = 3000 }

-- C is 1,000: of 512 one packet, of 8 all of it, of 1000 one; a control request is not cut
limits : (limit_in (sized 2 2 1000) (opens Bulk 512 ∷ []) 0 (asks Bulk) ≡ 512) × (limit_in (sized 2 2 1000) early 0 (asks Bulk) ≡ 1000)
    × (limit_in (sized 2 2 1000) late 0 (asks Interrupt) ≡ 1000) × (limit_in (sized 2 2 1000) (opens Control 512 ∷ []) 0 (asks Control) ≡ 1000)
unfolding slot_in
limits = (refl, refl, refl, refl)
