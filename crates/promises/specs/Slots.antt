-- What a caller knows of the slots and of the controller from its calls and their answers.
use Rattle.std.specs.Prelude.{ℕ, max, Bool, true, false, cond, List, [], ◌∷◌, eqb, Result}
use Rattle.token.specs.Chunks.{working_limit}
use Rattle.common.specs.declared.kinds.EndpointType.{EndpointType}
use Rattle.settings.specs.declared.settings.Settings.{Settings}
use Rattle.request.specs.declared.judge.TransferRequest.{TransferRequest}
use Rattle.ehci.specs.declared.call.Call.{Call}
use Rattle.ehci.specs.declared.call.Call.TheVariants.{StartBringUp, BringUpStep, AllocateAddress, OpenEndpoint, Close, SetAddress, SetPacketSize, Submit, Writeback, Cancel, Collect, Acknowledge, Drain, Rearm, Enable, Disable, ClearHalt}
use Rattle.ehci.specs.Replies.{answered_number, answered_values}
use Rattle.promises.specs.Runs.{History, Turn}
use Rattle.promises.specs.Events.{first_in, is_done}
use Rattle.ehci.specs.declared.reply.Answered.{Answered}
use Rattle.common.specs.declared.answer.Refusal.{Refusal}

-- ---- what a turn does to them

pub data Change : Type 0 where
  -- nothing of these
  Same : Change
  -- slot k is opened with that kind and packet size; it is given another size; it is closed
  OpensSlot : ℕ → EndpointType → ℕ → Change
  ResizesSlot : ℕ → ℕ → Change
  ClosesSlot : ℕ → Change
  -- its halt is cleared
  ClearsHalt : ℕ → Change
  -- from now on the controller does not run; it runs
  Halted Running : Change

-- an endpoint that is opened is answered with its slot
abbrev pub opens_by : EndpointType → ℕ → Result Answered Refusal → Change
opens_by kind packet a = cond (is_done a) (OpensSlot (first_in (answered_values a)) kind packet) Same

-- a step's values are the milliseconds to wait and, before the end, the register to read next
abbrev pub runs_by : List ℕ → Change
runs_by [] = Same
runs_by (wait ∷ []) = Running
runs_by (wait ∷ register ∷ vs) = Halted

-- "Bring-up (not running till its end)": a step that leaves nothing to read is its end; "7 leaves the controller not running"
abbrev pub steps_by : Result Answered Refusal → Change
steps_by a = cond (is_done a) (runs_by (answered_values a)) (cond (eqb (answered_number a) 7) Halted Same)

-- one line a call; "set packet size takes a byte, raises it to 8"
abbrev pub change_by : Call → Result Answered Refusal → Change
change_by StartBringUp a = cond (is_done a) Halted Same
change_by (BringUpStep v) a = steps_by a
change_by AllocateAddress a = Same
change_by (OpenEndpoint x) a = opens_by x.kind x.packet a
change_by (Close k) a = cond (is_done a) (ClosesSlot k) Same
change_by (SetAddress k address) a = Same
change_by (SetPacketSize k size) a = cond (is_done a) (ResizesSlot k (max size 8)) Same
change_by (Submit k r readings) a = Same
change_by (Writeback place token) a = Same
change_by (Cancel k id readings) a = Same
change_by (Collect k id readings) a = Same
change_by (Acknowledge x) a = Same
change_by (Drain v) a = Same
change_by Rearm a = Same
change_by Enable a = Same
change_by Disable a = Same
change_by (ClearHalt k) a = cond (is_done a) (ClearsHalt k) Same

abbrev pub change : Turn → Change
change t = change_by t.call t.answer

-- ---- the slots, and whether the controller runs

-- an open one has a kind and a packet size
pub data SlotKind : Type 0 where
  Shut : SlotKind
  Open : EndpointType → ℕ → SlotKind

abbrev pub resized : SlotKind → ℕ → SlotKind
resized Shut size = Shut
resized (Open kind old) size = Open kind size

abbrev pub slot_after : ℕ → Change → SlotKind → SlotKind
slot_after k Same old = old
slot_after k (OpensSlot j kind size) old = cond (eqb j k) (Open kind size) old
slot_after k (ResizesSlot j size) old = cond (eqb j k) (resized old size) old
slot_after k (ClosesSlot j) old = cond (eqb j k) Shut old
slot_after k (ClearsHalt j) old = old
slot_after k Halted old = old
slot_after k Running old = old

unfoldable pub slot_in : ℕ → History → SlotKind
slot_in k [] = Shut
slot_in k (t ∷ past) = slot_after k (change t) (slot_in k past)

abbrev pub runs_after : Change → Bool → Bool
runs_after Same old = old
runs_after (OpensSlot k kind size) old = old
runs_after (ResizesSlot k size) old = old
runs_after (ClosesSlot k) old = old
runs_after (ClearsHalt k) old = old
runs_after Halted old = false
runs_after Running old = true

unfoldable pub runs_in : History → Bool
runs_in [] = false
runs_in (t ∷ past) = runs_after (change t) (runs_in past)

-- ---- the limit of a slot's chunks

abbrev pub size_of : SlotKind → ℕ
size_of Shut = 0
size_of (Open kind size) = size

-- the packet size of slot k: that of its opening, or of its last accepted set packet size
abbrev pub size_in : ℕ → History → ℕ
size_in k h = size_of (slot_in k h)

-- "the working limit is the largest multiple of the slot's packet size, at submit, that is not above C"
abbrev pub limit_in : Settings → History → ℕ → TransferRequest → ℕ
limit_in s h k t = working_limit t.kind s.limit (size_in k h)
