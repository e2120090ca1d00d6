-- Document 01, "Numbers a call answers": "0, 9, 10 and 11 are results; the rest are refusals and leave all as before, but 7 leaves the controller not running, registers as written."
-- And of any answer: "its register writes, at most 6".
use Rattle.std.specs.Prelude.{◌≡◌, ℕ, ◌≤◌, ◌≢◌, List, Err}
use Rattle.register.specs.Writes.{no_writes}
use Rattle.descriptor.specs.declared.qtd.QueueTransferDescriptor.{QueueTransferDescriptor}
use Rattle.state.specs.State.{with_bring_up}
use Rattle.state.specs.Plain.{Ehci}
use Rattle.common.specs.declared.answer.Refusal.{Refusal}
use Rattle.common.specs.declared.answer.Refusal.TheVariants.{InvalidParameter, SlotLimitReached, InvalidEndpoint, QueueFull, NotSupported, NoMemory, Timeout, NotReady}
use Rattle.ehci.specs.declared.call.Call.{Call}
use Rattle.ehci.specs.Replies.{answered_number}
use Rattle.ehci.specs.Door.{Applied, applied, apply_of}

-- not running, and no bring-up begun; all else as before
abbrev pub stopped : Ehci → Ehci
stopped s = with_bring_up s 0 0 0 s.enabled

abbrev pub left_by : Refusal → Ehci → Ehci
left_by InvalidParameter s = s
left_by SlotLimitReached s = s
left_by InvalidEndpoint s = s
left_by QueueFull s = s
left_by NotSupported s = s
left_by NoMemory s = s
left_by Timeout s = stopped s
left_by NotReady s = s

-- all that a refused call leaves: no write, and every row as it was
abbrev pub refused_world : Ehci → List QueueTransferDescriptor → List ℕ → List ℕ → List ℕ → Refusal → Applied
refused_world s pool heads frames setups r =
    applied (record { state = left_by r s; answer = Err r; writes = no_writes }) pool heads frames setups

-- a refusal fixes everything, whatever the state, the rows and the call
abbrev pub RefusalsKeep : Type 0
RefusalsKeep =
    (s : Ehci) (pool : List QueueTransferDescriptor) (heads frames setups : List ℕ) (call : Call) (r : Refusal)
    → (apply_of s pool heads frames setups call).reply.answer ≡ Err r
    → apply_of s pool heads frames setups call ≡ refused_world s pool heads frames setups r

-- ---- the same by 01's numbers

-- what a call that answered the number n left, against what was there before
pub record Unmoved (s : Ehci) (pool : List QueueTransferDescriptor) (heads frames setups : List ℕ) (n : ℕ) (a : Applied) : Type 0 where
  pub no_write : a.reply.writes ≡ no_writes
  pub pool_stays : a.pool ≡ pool
  pub heads_stay : a.heads ≡ heads
  pub frames_stay : a.frames ≡ frames
  pub setups_stay : a.setups ≡ setups
  pub state_stays : n ≢ 7 → a.reply.state ≡ s
  pub only_stopped : n ≡ 7 → a.reply.state ≡ stopped s

abbrev pub NumbersKeep : Type 0
NumbersKeep =
    (s : Ehci) (pool : List QueueTransferDescriptor) (heads frames setups : List ℕ) (call : Call) (n : ℕ)
    → answered_number (apply_of s pool heads frames setups call).reply.answer ≡ n
    → n ≢ 0 → n ≢ 9 → n ≢ 10 → n ≢ 11
    → Unmoved s pool heads frames setups n (apply_of s pool heads frames setups call)

-- ---- the writes of any answer

abbrev pub FewWrites : Type 0
FewWrites =
    (s : Ehci) (pool : List QueueTransferDescriptor) (heads frames setups : List ℕ) (call : Call)
    → (apply_of s pool heads frames setups call).reply.writes.count ≤ 6
