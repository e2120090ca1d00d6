-- Document 01, "Examples (★ proved)": one table. Each row: what the definitions give, and what 01 prints.
use Rattle.std.specs.Prelude.{ℕ, ◌-◌, true, false, List, [], ◌∷◌, ◌++◌, length, replicate}
use Rattle.register.specs.Writes.{list_of}
use Rattle.token.specs.declared.qtd.QtdPid.TheVariants.{In as InPid, Setup}
use Rattle.common.specs.declared.kinds.Direction.TheVariants.{Out, In}
use Rattle.common.specs.declared.kinds.EndpointType.TheVariants.{Bulk}
use Rattle.token.specs.Tokens.{token_of}
use Rattle.token.specs.Plans.{chunk_token}
use Rattle.descriptor.specs.declared.qtd.QueueTransferDescriptor.{QueueTransferDescriptor}
use Rattle.descriptor.specs.Heads.{characteristics_of}
use Rattle.descriptor.specs.Slots.{page_slots}
use Rattle.pool.specs.Chains.{blank}
use Rattle.pool.specs.declared.chain.Standing.TheVariants.{Inactive}
use Rattle.settings.specs.declared.settings.Settings.{Settings}
use Rattle.state.specs.Plain.{Ehci}
use Rattle.pipe.specs.Endpoints.{flag_number}
use Rattle.opening.specs.Opening.{Opened, open_of}
use Rattle.controller.specs.declared.lent.Readings.{Readings}
use Rattle.schedule.specs.Bell.{distance, frames_passed, some_ring}
use Rattle.collection.specs.Answers.{collected_number}
use Rattle.collection.specs.Examples.{collected, one_request, seen}
use Rattle.ehci.specs.declared.call.Call.{Call}
use Rattle.ehci.specs.declared.call.Call.TheVariants.{StartBringUp, BringUpStep, OpenEndpoint, Submit, Cancel, Acknowledge, Drain, Enable}
use Rattle.ehci.specs.Plain.{Reply}
use Rattle.ehci.specs.Replies.{answered_number, answered_values}
use Rattle.ehci.specs.Door.{Applied, apply_of}

abbrev pub Row : Type 0
Row = List ℕ × List ℕ

abbrev pub one : ℕ → List ℕ
one w = w ∷ []

-- ---- a controller and its four rows, and calls on it

pub record Kept : Type 0 where
  pub state : Ehci
  pub pool : List QueueTransferDescriptor
  pub heads : List ℕ
  pub frames : List ℕ
  pub setups : List ℕ

abbrev pub kept : Ehci → List QueueTransferDescriptor → List ℕ → List ℕ → List ℕ → Kept
kept s pool heads frames setups =
    record { state = s; pool = pool; heads = heads; frames = frames; setups = setups }

abbrev pub apply_to : Kept → Call → Applied
apply_to w call = apply_of w.state w.pool w.heads w.frames w.setups call

abbrev pub leaves : Applied → Kept
leaves a = kept a.reply.state a.pool a.heads a.frames a.setups

-- what a call replies, and what it leaves
unfoldable pub reply_to : Kept → Call → Reply
reply_to w call = (apply_to w call).reply

unfoldable pub after : Kept → Call → Kept
after w call = leaves (apply_to w call)

-- the first call first
abbrev pub run : Kept → List Call → Kept
run w [] = w
run w (c ∷ cs) = run (after w c) cs

-- ---- two descriptors and two slots

abbrev pub small : Settings
small =
    record {
      descriptors = 2;
      endpoints = 2;
      ports = 1;
      limit = 16384;
      wait = 1;
      pool = 0x100000;
      heads = 0x200000;
      frames = 0x300000;
      setups = 0x400000;
    }

abbrev pub left_by : Opened → Kept
left_by o = kept o.opening.state o.pool o.heads o.frames o.setups

-- over rows that hold 7s
unfoldable pub just_opened : Kept
just_opened = left_by (open_of small (replicate 3 blank) (replicate 51 7) (replicate 1024 7) (replicate 16 7))

-- bulk, at most 512 bytes a packet
abbrev pub open_bulk : ℕ → ℕ → Call
open_bulk address number = OpenEndpoint (record { kind = Bulk; address = address; number = number; packet = 512 })

-- USBCMD as read
abbrev pub reading : ℕ → Readings
reading command = record { command = command; frame = 0; overlay = 0 }

abbrev pub submit_out : ℕ → ℕ → ℕ → Call
submit_out slot address length =
    Submit slot (record { kind = Bulk; direction = Out; setup = 0; address = address; length = length }) (reading 0x80031)

-- bring-up, interrupts on, and an endpoint in slot 0
abbrev pub up_calls : List Call
up_calls =
    StartBringUp
    ∷ BringUpStep 0x80000
    ∷ BringUpStep 0x1000
    ∷ BringUpStep 0x80000
    ∷ BringUpStep 0x80000
    ∷ BringUpStep 0x80000
    ∷ BringUpStep 0
    ∷ Enable
    ∷ open_bulk 5 1
    ∷ []

unfoldable pub brought_up : Kept
brought_up = run just_opened up_calls

-- a reply's number, and what goes with it
abbrev pub answer_row : Reply → List ℕ
answer_row r = answered_number r.answer ∷ answered_values r.answer

abbrev pub submit_row : ℕ → ℕ → List ℕ
submit_row address length = answer_row (reply_to brought_up (submit_out 0 address length))

-- ---- two unlinks

-- an endpoint in slot 1, a request on each; each is cancelled. The doorbell's bit reads 1 once it is rung
abbrev pub submit_calls : List Call
submit_calls = open_bulk 5 2 ∷ submit_out 0 0x500000 512 ∷ submit_out 1 0x501000 512 ∷ []

abbrev pub cancel_calls : List Call
cancel_calls = Cancel 0 1 (reading 0x80031) ∷ Cancel 1 1 (reading 0x80071) ∷ []

unfoldable pub two_unlinks : Kept
two_unlinks = run (run brought_up submit_calls) cancel_calls

-- the unlinks, which 01 numbers 1, 2
abbrev pub made : ℕ
made = length cancel_calls

-- 01's answered number is those made less those unanswered
abbrev pub bell_row : Ehci → List ℕ
bell_row s = (made - s.unanswered) ∷ s.unanswered ∷ s.doorbell ∷ []

abbrev pub acknowledge : Call
acknowledge = Acknowledge (record { status = 0x24; interrupts = 0x27; flag = true; again = true })

unfoldable pub acknowledged : Kept
acknowledged = after two_unlinks acknowledge

abbrev pub drain : Call
drain = Drain 0x80031

unfoldable pub drained : Kept
drained = after acknowledged drain

-- number, event, its value; answered, unanswered, doorbell; whether USBCMD with 0x40 is written
abbrev pub drain_row : Reply → List ℕ
drain_row r = answer_row r ++ (bell_row r.state ++ one (flag_number (some_ring (list_of r.writes))))

-- an interrupt request that was unlinked at 16380 is collected: the frames since then, whether they are enough, the answer
abbrev pub unlink_row : ℕ → List ℕ
unlink_row now =
    distance 16380 now ∷ flag_number (frames_passed 16380 now)
    ∷ collected_number (collected (one_request 3 3 0 16380 0) now (seen Inactive 0 20000) 0 1).came.answer ∷ []

-- ---- the table

abbrev pub starred : List Row
starred =
    -- Tokens: setup 00080E80
    (one (token_of Setup 8 false false).0, one 0x00080E80)
    -- In data 18 80120D80
    ∷ (one (token_of InPid 18 false true).0, one 0x80120D80)
    -- bulk In 16384 40000D80
    ∷ (one (chunk_token In 16384 false).0, one 0x40000D80)
    -- last 40008D80
    ∷ (one (chunk_token In 16384 true).0, one 0x40008D80)
    -- bulk Out 0 00008C80
    ∷ (one (chunk_token Out 0 true).0, one 0x00008C80)
    -- Slots: 10000FFF, 16384: 10000FFF, 10001000 to 10004000
    ∷ (page_slots 0x10000FFF 16384, 0x10000FFF ∷ 0x10001000 ∷ 0x10002000 ∷ 0x10003000 ∷ 0x10004000 ∷ [])
    -- FFFFFFFF, 1: accepted (answer 0, id 1)
    ∷ (submit_row 0xFFFFFFFF 1, 0 ∷ 1 ∷ [])
    -- length 2: refusal 1
    ∷ (submit_row 0xFFFFFFFF 2, one 1)
    -- Heads: 5, endpoint 1, bulk 512: F2002105
    ∷ (one (characteristics_of Bulk 5 1 512), one 0xF2002105)
    -- Unlink: start 16380, now 4: 8, pending (answer 9)
    ∷ (unlink_row 4, 8 ∷ 0 ∷ 9 ∷ [])
    -- now 5: 9, passed (answer 0)
    ∷ (unlink_row 5, 9 ∷ 1 ∷ 0 ∷ [])
    -- Drain: two unlinks, doorbell up
    ∷ (bell_row two_unlinks.state, 0 ∷ 2 ∷ 1 ∷ [])
    -- acknowledged 0x24 (answer 0, yes)
    ∷ (answer_row (reply_to two_unlinks acknowledge), 0 ∷ 1 ∷ [])
    -- PortChange, one answered, doorbell rung
    ∷ (drain_row (reply_to acknowledged drain), 0 ∷ 1 ∷ 0 ∷ 1 ∷ 1 ∷ 1 ∷ 1 ∷ [])
    -- then TransferActivity, still one
    ∷ (drain_row (reply_to drained drain), 0 ∷ 2 ∷ 1 ∷ 1 ∷ 1 ∷ 1 ∷ 0 ∷ [])
    ∷ []
