-- Order 6: a request begins with the data toggle that the controller left at the end of the slot's last one (USB 8.6, EHCI 4.10.2).
use Rattle.std.specs.Prelude.{ℕ, cond, [], ◌∷◌, ◌≡◌, eqb}
use Rattle.token.specs.EhciQtd.{data_toggle}
use Rattle.common.specs.declared.kinds.EndpointType.{EndpointType}
use Rattle.common.specs.declared.kinds.EndpointType.TheVariants.{Control, Isochronous, Bulk, Interrupt}
use Rattle.settings.specs.declared.settings.Settings.{Settings}
use Rattle.state.specs.Plain.{Ehci}
use Rattle.pipe.specs.Endpoints.{endpoint_at, flag_number}
use Rattle.pipe.specs.declared.endpoints.Endpoint.{Endpoint}
use Rattle.pipe.specs.declared.endpoints.Endpoint.TheVariants.{Closed, Idle, Linked, Unlinking}
use Rattle.controller.specs.declared.lent.Readings.{Readings}
use Rattle.request.specs.declared.judge.TransferRequest.{TransferRequest}
use Rattle.ehci.specs.declared.call.Call.{Call}
use Rattle.ehci.specs.declared.call.Call.TheVariants.{StartBringUp, BringUpStep, AllocateAddress, OpenEndpoint, Close, SetAddress, SetPacketSize, Submit, Writeback, Cancel, Collect, Acknowledge, Drain, Rearm, Enable, Disable, ClearHalt}
use Rattle.promises.specs.Runs.{Always, History, Promise, Turn, rows_of}
use Rattle.promises.specs.Events.{Collects, Drains, Event, Other, Parts, Reads, Submits, Unlinks, event}
use Rattle.promises.specs.Rooms.{number_at}
use Rattle.promises.specs.Slots.{Change, ClearsHalt, ClosesSlot, Halted, OpensSlot, ResizesSlot, Running, Same, change}
use Rattle.promises.specs.Submissions.{word_at}

-- ---- what a turn does to a toggle

-- "Collect has one more reading, the head's overlay token as the controller left it"
abbrev pub overlay_given : Call → ℕ
overlay_given StartBringUp = 0
overlay_given (BringUpStep v) = 0
overlay_given AllocateAddress = 0
overlay_given (OpenEndpoint x) = 0
overlay_given (Close k) = 0
overlay_given (SetAddress k address) = 0
overlay_given (SetPacketSize k size) = 0
overlay_given (Submit k r readings) = 0
overlay_given (Writeback place token) = 0
overlay_given (Cancel k id readings) = 0
overlay_given (Collect k id readings) = readings.overlay
overlay_given (Acknowledge x) = 0
overlay_given (Drain v) = 0
overlay_given Rearm = 0
overlay_given Enable = 0
overlay_given Disable = 0
overlay_given (ClearHalt k) = 0

pub data Flip : Type 0 where
  Keeps : Flip
  -- slot k's is that from now on
  Gives : ℕ → ℕ → Flip

-- "0 when an endpoint is opened; closing forgets it"; "A clear-halt call sets it to 0"
abbrev pub starts_at : Change → Flip
starts_at Same = Keeps
starts_at (OpensSlot k kind size) = Gives k 0
starts_at (ResizesSlot k size) = Keeps
starts_at (ClosesSlot k) = Gives k 0
starts_at (ClearsHalt k) = Gives k 0
starts_at Halted = Keeps
starts_at Running = Keeps

-- "The passing collect call .. keeps its bit 31"
abbrev pub flip_by : Event → ℕ → Change → Flip
flip_by Other token x = starts_at x
flip_by Reads token x = starts_at x
flip_by Drains token x = starts_at x
flip_by (Submits k id t) token x = starts_at x
flip_by (Unlinks k) token x = starts_at x
flip_by (Parts k frame) token x = starts_at x
flip_by (Collects k id frame) token x = Gives k (data_toggle token)

abbrev pub flip : Settings → Turn → Flip
flip s t = flip_by (event s t) (overlay_given t.call) (change t)

abbrev pub toggle_after : ℕ → Flip → ℕ → ℕ
toggle_after k Keeps old = old
toggle_after k (Gives j toggle) old = cond (eqb j k) toggle old

-- slot k's toggle, as the history tells it
unfoldable pub toggle_in : Settings → ℕ → History → ℕ
toggle_in s k [] = 0
toggle_in s k (t ∷ past) = toggle_after k (flip s t) (toggle_in s k past)

-- ---- of any machine

-- "that bit into the overlay token for bulk and interrupt, 0 for control"
abbrev pub toggle_for : EndpointType → ℕ → ℕ
toggle_for Control toggle = 0
toggle_for Isochronous toggle = toggle
toggle_for Bulk toggle = toggle
toggle_for Interrupt toggle = toggle

-- at the exit of an accepted submit; the overlay's token is word 6 of the head
abbrev pub TogglesKept : Promise
TogglesKept =
    Always
    (λ s h w. (k : ℕ) (t : TransferRequest) (readings : Readings) → number_at w (Submit k t readings) ≡ 0
    → data_toggle (word_at (rows_of (w.does (Submit k t readings))) k 6) ≡ toggle_for t.kind (toggle_in s k h))

-- ---- the law that ties the state's toggles to the history

abbrev pub toggle_of : Endpoint → ℕ
toggle_of Closed = 0
toggle_of (Idle p) = flag_number p.toggle
toggle_of (Linked p r) = flag_number p.toggle
toggle_of (Unlinking p r b) = flag_number p.toggle

abbrev pub toggle_now : Ehci → ℕ → ℕ
toggle_now s k = toggle_of (endpoint_at s k)

abbrev pub TogglesTied : Promise
TogglesTied = Always (λ s h w. (k : ℕ) → toggle_in s k h ≡ toggle_now w.view k)
