-- What happens in a turn, from the call, its answer's number and values, its register writes and the lent rows.
use Rattle.std.specs.Prelude.{ℕ, ◌+◌, Bool, ◌||◌, not, cond, ◌&&◌, List, [], ◌∷◌, eqb, Result}
use Rattle.register.specs.Bits.{bit}
use Rattle.settings.specs.declared.settings.Settings.{Settings}
use Rattle.request.specs.declared.judge.TransferRequest.{TransferRequest}
use Rattle.schedule.specs.Bell.{some_ring}
use Rattle.ehci.specs.declared.call.Call.{Call}
use Rattle.ehci.specs.declared.call.Call.TheVariants.{StartBringUp, BringUpStep, AllocateAddress, OpenEndpoint, Close, SetAddress, SetPacketSize, Submit, Writeback, Cancel, Collect, Acknowledge, Drain, Rearm, Enable, Disable, ClearHalt}
use Rattle.ehci.specs.Replies.{answered_number, answered_values}
use Rattle.promises.specs.Runs.{Turn}
use Rattle.promises.specs.Walks.{frame_walk, is_in, ring_walk}
use Rattle.ehci.specs.declared.reply.Answered.{Answered}
use Rattle.common.specs.declared.answer.Refusal.{Refusal}

-- ---- rings: "Only a ring .. writes 0x40"

-- a write of USBCMD with the doorbell bit is one (`is_ring` of the doorbell's law)
abbrev pub rings : Turn → Bool
rings t = some_ring t.wrote

-- ---- heads that leave a schedule

-- slot k's head is met before the call, and not after it
abbrev pub leaves_ring : Settings → ℕ → Turn → Bool
leaves_ring s k t = is_in (k + 1) (ring_walk s t.before) && not (is_in (k + 1) (ring_walk s t.after))

abbrev pub leaves_frames : Settings → ℕ → Turn → Bool
leaves_frames s k t = is_in (k + 1) (frame_walk s t.before 0) && not (is_in (k + 1) (frame_walk s t.after 0))

-- ---- events

pub data Event : Type 0 where
  -- nothing of these
  Other : Event
  -- an acknowledgment reads the advance bit; a drain
  Reads Drains : Event
  -- slot k's request is accepted, with its id
  Submits : ℕ → ℕ → TransferRequest → Event
  -- slot k's head leaves the ring; it leaves the frame list, with the FRINDEX of the call
  Unlinks : ℕ → Event
  Parts : ℕ → ℕ → Event
  -- slot k's request of that id is collected, with the FRINDEX of the call
  Collects : ℕ → ℕ → ℕ → Event

-- 0 accepts
abbrev pub is_done : Result Answered Refusal → Bool
is_done a = eqb (answered_number a) 0

-- the first of the values that go with an answer
abbrev pub first_in : List ℕ → ℕ
first_in [] = 0
first_in (v ∷ vs) = v

-- an accepted submit gives its id
abbrev pub submits_by : ℕ → TransferRequest → Result Answered Refusal → Event
submits_by k t a = cond (is_done a) (Submits k (first_in (answered_values a)) t) Other

-- 0, 10 and 11 collect; 9 and a refusal do not
abbrev pub is_collected : Result Answered Refusal → Bool
is_collected a = is_done a || eqb (answered_number a) 10 || eqb (answered_number a) 11

abbrev pub leaving : Settings → ℕ → ℕ → Turn → Event
leaving s k frame t = cond (leaves_ring s k t) (Unlinks k) (cond (leaves_frames s k t) (Parts k frame) Other)

-- one line a call; a call that is refused does nothing
abbrev pub happens : Settings → Call → Turn → Event
happens s StartBringUp t = Other
happens s (BringUpStep w) t = Other
happens s AllocateAddress t = Other
happens s (OpenEndpoint x) t = Other
happens s (Close k) t = Other
happens s (SetAddress k a) t = Other
happens s (SetPacketSize k size) t = Other
happens s (Submit k r readings) t = submits_by k r t.answer
happens s (Writeback place token) t = Other
happens s (Cancel k id readings) t = leaving s k readings.frame t
happens s (Collect k id readings) t =
    cond (is_collected t.answer) (Collects k id readings.frame) (leaving s k readings.frame t)
happens s (Acknowledge x) t = cond (is_done t.answer && eqb (bit x.status 5) 1) Reads Other
happens s (Drain w) t = cond (is_done t.answer) Drains Other
happens s Rearm t = Other
happens s Enable t = Other
happens s Disable t = Other
happens s (ClearHalt k) t = Other

abbrev pub event : Settings → Turn → Event
event s t = happens s t.call t
