-- Machines that begin a request with a wrong toggle: with 0, as before the order; with that of a collect that did not pass; of the time before a
-- clear-halt or an opening; of a slot's other requests; for control. The overlay's token in the head is their memory.
use Rattle.std.specs.Prelude.{Ok, Result}
use Prim.Native.Nat.{ℕ, max}
use mathlib.Core.Path.{◌≡◌, refl}
use mathlib.Core.Bool.{true}
use mathlib.Core.List.{List, [], ◌∷◌}
use native.Mathlib.Omega.{arith}
use Rattle.register.specs.Writes.{no_writes}
use Rattle.token.specs.EhciQtd.{data_toggle}
use Rattle.common.specs.Rows.{put_at}
use Rattle.common.specs.declared.kinds.Direction.TheVariants.{In}
use Rattle.common.specs.declared.kinds.EndpointType.{EndpointType}
use Rattle.common.specs.declared.kinds.EndpointType.TheVariants.{Bulk, Control}
use Rattle.descriptor.specs.Descriptors.{terminated}
use Rattle.descriptor.specs.Heads.{ring_head}
use Rattle.opening.specs.Opening.{fresh_state, opened_heads}
use Rattle.settings.specs.Settings.{apart_areas, area_good, each_good, no_overlap, numbers_good, settings_good}
use Rattle.settings.specs.declared.settings.Settings.{Settings}
use Rattle.state.specs.Slots.{slot_at}
use Rattle.pipe.specs.Endpoints.{decoded, endpoint_at}
use Rattle.controller.specs.declared.lent.Readings.{Readings}
use Rattle.request.specs.declared.judge.TransferRequest.{TransferRequest}
use Rattle.schedule.specs.Links.{started_overlay}
use Rattle.ehci.specs.Door.{Applied, applied}
use Rattle.ehci.specs.declared.call.Call.{Call}
use Rattle.ehci.specs.declared.call.Call.TheVariants.{StartBringUp, BringUpStep, AllocateAddress, OpenEndpoint, Close, SetAddress, SetPacketSize, Submit, Writeback, Cancel, Collect, Acknowledge, Drain, Rearm, Enable, Disable, ClearHalt}
use Rattle.ehci.specs.declared.reply.Answered.TheVariants.{Cancelled, Done, Pending}
use Rattle.ehci.specs.declared.reply.Given.TheVariants.{Id, Length, Nothing, Slot}
use Rattle.promises.specs.Runs.{EveryRun, Machine, World, history_of, in_plain, rows_of, world_of}
use Rattle.promises.specs.Submissions.{word_at}
use Rattle.promises.specs.Walks.{frame_walk, ring_walk, walk_from}
use Rattle.promises.specs.Toggles.{TogglesKept, TogglesTied, toggle_in}
use Rattle.promises.proofs.invariants.Reached.{fresh_world, opens_fresh}
use Rattle.refutations.proofs.WrongRuns.{sized}
use Rattle.ehci.specs.declared.reply.Answered.{Answered}
use Rattle.common.specs.declared.answer.Refusal.{Refusal}

abbrev two : Settings
two = sized 2 2 1000

two_good : settings_good two ≡ true
unfolding settings_good numbers_good each_good no_overlap area_good apart_areas
two_good = refl

-- ---- machines: what they answer to a collect, whose head they then write, and what of the old token and of the one given

abbrev stays : World → Result Answered Refusal → Applied
stays w a = applied (record { state = w.state; answer = a; writes = no_writes }) w.rows.pool w.rows.heads w.rows.frames w.rows.setups

abbrev keeps : World → Result Answered Refusal → ℕ → ℕ → Applied
keeps w a k token =
    applied (record { state = w.state; answer = a; writes = no_writes }) w.rows.pool (started_overlay w.rows.heads k 1 token) w.rows.frames
    w.rows.setups

abbrev flips : Result Answered Refusal → (ℕ → ℕ) → (ℕ → ℕ → ℕ) → Machine in_plain
flips a whose word w StartBringUp = stays w (Ok Pending)
flips a whose word w (BringUpStep v) = stays w (Ok Pending)
flips a whose word w AllocateAddress = stays w (Ok Pending)
flips a whose word w (OpenEndpoint x) = stays w (Ok (Done (Slot 0)))
flips a whose word w (Close k) = stays w (Ok (Done Nothing))
flips a whose word w (SetAddress k address) = stays w (Ok Pending)
flips a whose word w (SetPacketSize k size) = stays w (Ok Pending)
flips a whose word w (Submit k t readings) = stays w (Ok (Done (Id 1)))
flips a whose word w (Writeback place token) = stays w (Ok Pending)
flips a whose word w (Cancel k id readings) = stays w (Ok Pending)
flips a whose word w (Collect k id readings) = keeps w a (whose k) (word (word_at w.rows k 6) readings.overlay)
flips a whose word w (Acknowledge x) = stays w (Ok Pending)
flips a whose word w (Drain v) = stays w (Ok Pending)
flips a whose word w Rearm = stays w (Ok Pending)
flips a whose word w Enable = stays w (Ok Pending)
flips a whose word w Disable = stays w (Ok Pending)
flips a whose word w (ClearHalt k) = stays w (Ok (Done Nothing))

abbrev own : ℕ → ℕ
own k = k

abbrev given : ℕ → ℕ → ℕ
given old token = token

-- collected with so many bytes
abbrev complete : Result Answered Refusal
complete = Ok (Done (Length 512 0))

-- ---- calls

abbrev opens : Call
opens = OpenEndpoint (record { kind = Bulk; address = 1; number = 1; packet = 512 })

abbrev collects : ℕ → ℕ → Call
collects k overlay = Collect k 1 (record { command = 0; frame = 0; overlay = overlay })

abbrev asks : EndpointType → TransferRequest
asks kind = record { kind = kind; direction = In; setup = 0; address = 0x500000; length = 512 }

abbrev reads : Readings
reads = record { command = 0; frame = 0; overlay = 0 }

-- an odd number of packets: bit 31, and the rest as a controller leaves it
abbrev odd : Call
odd = collects 0 0x80000D00

-- the toggle with which a bulk or other request begins in slot 0
abbrev begins : Machine in_plain → EndpointType → List Call → ℕ
begins m kind cs = data_toggle (word_at (rows_of (m (world_of m (fresh_world two) cs) (Submit 0 (asks kind) reads))) 0 6)

-- right: that of the last collect, 1 after an odd number and 0 after another
right_toggle : (begins (flips complete own given) Bulk (odd ∷ opens ∷ []) ≡ 1) × (begins (flips complete own given) Bulk (collects 0 0xD00 ∷ odd ∷ opens ∷ []) ≡ 0)
unfolding world_of put_at started_overlay fresh_state opened_heads ring_head terminated
right_toggle = (refl, refl)

-- ---- refuted

-- with 0, as before the order
pub base_toggles : EveryRun TogglesKept (flips complete own (λ old token. 0)) → ⊥
unfolding history_of world_of toggle_in put_at started_overlay fresh_state opened_heads ring_head terminated
base_toggles p =
    let wrong : ◌≡◌ {A = ℕ} 0 1 = p two (fresh_world two) (opens_fresh two two_good) (odd ∷ opens ∷ []) 0 (asks Bulk) reads refl in
    omega (arith, wrong)

-- with that of a collect that answered 9
pub early_toggles : EveryRun TogglesKept (flips (Ok Pending) own given) → ⊥
unfolding history_of world_of toggle_in ring_walk frame_walk walk_from put_at started_overlay fresh_state opened_heads ring_head terminated
early_toggles p =
    let wrong : ◌≡◌ {A = ℕ} 1 0 = p two (fresh_world two) (opens_fresh two two_good) (odd ∷ opens ∷ []) 0 (asks Bulk) reads refl in
    omega (arith, wrong)

-- not that of a collect that answered 10
pub cancelled_toggles : EveryRun TogglesKept (flips (Ok Cancelled) own (λ old token. old)) → ⊥
unfolding history_of world_of toggle_in put_at started_overlay fresh_state opened_heads ring_head terminated
cancelled_toggles p =
    let wrong : ◌≡◌ {A = ℕ} 0 1 = p two (fresh_world two) (opens_fresh two two_good) (odd ∷ opens ∷ []) 0 (asks Bulk) reads refl in
    omega (arith, wrong)

-- 1 for ever after the first 1
pub stuck_toggles : EveryRun TogglesKept (flips complete own max) → ⊥
unfolding history_of world_of toggle_in put_at started_overlay fresh_state opened_heads ring_head terminated
stuck_toggles p =
    let wrong : ◌≡◌ {A = ℕ} 1 0 = p two (fresh_world two) (opens_fresh two two_good) (collects 0 0xD00 ∷ odd ∷ opens ∷ []) 0 (asks Bulk) reads refl in
    omega (arith, wrong)

-- one for all slots
pub shared_toggles : EveryRun TogglesKept (flips complete (λ k. 0) given) → ⊥
unfolding history_of world_of toggle_in put_at started_overlay fresh_state opened_heads ring_head terminated
shared_toggles p =
    let wrong : ◌≡◌ {A = ℕ} 1 0 = p two (fresh_world two) (opens_fresh two two_good) (collects 1 0x80000D00 ∷ opens ∷ []) 0 (asks Bulk) reads refl in
    omega (arith, wrong)

-- for control too
pub control_toggles : EveryRun TogglesKept (flips complete own given) → ⊥
unfolding history_of world_of toggle_in put_at started_overlay fresh_state opened_heads ring_head terminated
control_toggles p =
    let wrong : ◌≡◌ {A = ℕ} 1 0 = p two (fresh_world two) (opens_fresh two two_good) (odd ∷ opens ∷ []) 0 (asks Control) reads refl in
    omega (arith, wrong)

-- as if no halt had been cleared
pub halted_toggles : EveryRun TogglesKept (flips complete own given) → ⊥
unfolding history_of world_of toggle_in put_at started_overlay fresh_state opened_heads ring_head terminated
halted_toggles p =
    let wrong : ◌≡◌ {A = ℕ} 1 0 = p two (fresh_world two) (opens_fresh two two_good) (ClearHalt 0 ∷ odd ∷ opens ∷ []) 0 (asks Bulk) reads refl in
    omega (arith, wrong)

-- of the endpoint that had the slot before
pub opened_toggles : EveryRun TogglesKept (flips complete own given) → ⊥
unfolding history_of world_of toggle_in put_at started_overlay fresh_state opened_heads ring_head terminated
opened_toggles p =
    let wrong : ◌≡◌ {A = ℕ} 1 0 = p two (fresh_world two) (opens_fresh two two_good) (opens ∷ Close 0 ∷ odd ∷ opens ∷ []) 0 (asks Bulk) reads refl in
    omega (arith, wrong)

-- a state without it
pub base_tied : EveryRun TogglesTied (flips complete own (λ old token. 0)) → ⊥
unfolding history_of world_of toggle_in endpoint_at decoded slot_at put_at started_overlay fresh_state opened_heads ring_head terminated
base_tied p =
    let wrong : ◌≡◌ {A = ℕ} 1 0 = p two (fresh_world two) (opens_fresh two two_good) (odd ∷ opens ∷ []) 0 in
    omega (arith, wrong)
