-- The controller's registers, over any calls: every write of every call, from the history; what is acknowledged, pending and drained; and
-- which turns ring. Promises; at the end, the law that ties the state to them.
use Rattle.std.specs.Prelude.{ℕ, ◌+◌, ◌<◌, Bool, true, false, ◌&&◌, not, cond, List, [], ◌∷◌, ◌≡◌, eqb, ltb, Result}
use Rattle.register.specs.Bits.{any_of, only_bits, with_bits, without_bits}
use Rattle.register.specs.Writes.{write_of}
use Rattle.register.specs.declared.writes.Write.{Write}
use Rattle.settings.specs.declared.settings.Settings.{Settings}
use Rattle.pipe.specs.Endpoints.{flag_number}
use Rattle.schedule.specs.Bell.{is_ring}
use Rattle.ehci.specs.declared.call.Call.{Call}
use Rattle.ehci.specs.declared.call.Call.TheVariants.{StartBringUp, BringUpStep, AllocateAddress, OpenEndpoint, Close, SetAddress, SetPacketSize, Submit, Writeback, Cancel, Collect, Acknowledge, Drain, Rearm, Enable, Disable, ClearHalt}
use Rattle.ehci.specs.declared.call.InterruptReadings.{InterruptReadings}
use Rattle.ehci.specs.Replies.{answered_number, answered_values}
use Rattle.promises.specs.Runs.{Always, History, Moment, Promise, Turn, turn_by}
use Rattle.promises.specs.Events as E
use Rattle.promises.specs.Events.{event, is_done, rings}
use Rattle.promises.specs.Bells.{Bell, Quiet, asked, bell, counted, is_answered, is_up}
use Rattle.ehci.specs.declared.reply.Answered.{Answered}
use Rattle.common.specs.declared.answer.Refusal.{Refusal}

-- ---- what a call asks of the registers, with what it has read of them: one line a call

pub data Access : Type 0 where
  -- nothing
  None : Access
  -- bring-up: its start; a step, with the reading
  Starts : Access
  Steps : ℕ → Access
  -- a submit; a cancel or a collect: with USBCMD
  Submits Leaves : ℕ → Access
  Acknowledges : InterruptReadings → Access
  -- a drain, with USBCMD
  Drains : ℕ → Access
  Rearms Enables Disables : Access

abbrev pub access_of : Call → Access
access_of StartBringUp = Starts
access_of (BringUpStep v) = Steps v
access_of AllocateAddress = None
access_of (OpenEndpoint x) = None
access_of (Close k) = None
access_of (SetAddress k a) = None
access_of (SetPacketSize k size) = None
access_of (Submit k r readings) = Submits readings.command
access_of (Writeback place token) = None
access_of (Cancel k id readings) = Leaves readings.command
access_of (Collect k id readings) = Leaves readings.command
access_of (Acknowledge x) = Acknowledges x
access_of (Drain v) = Drains v
access_of Rearm = Rearms
access_of Enable = Enables
access_of Disable = Disables
access_of (ClearHalt k) = None

abbrev pub access : Turn → Access
access t = access_of t.call

abbrev pub is_accepted : Turn → Bool
is_accepted t = is_done t.answer

-- ---- what is pending, what is masked, and the flag

-- "p = USBSTS and 0x37"
abbrev pub acknowledged : InterruptReadings → ℕ
acknowledged x = only_bits x.status 0x37

-- "port change: that bit cleared .. Else bits 0, 1, 5: cleared .. Else cleared"
abbrev pub left_of : ℕ → ℕ
left_of p = cond (any_of p 4) (without_bits p 4) (cond (any_of p 0x23) (without_bits p 0x23) 0)

-- "p joins pending"
abbrev pub pending_after : Access → ℕ → ℕ
pending_after None p = p
pending_after Starts p = p
pending_after (Steps v) p = p
pending_after (Submits v) p = p
pending_after (Leaves v) p = p
pending_after (Acknowledges x) p = with_bits p (acknowledged x)
pending_after (Drains v) p = left_of p
pending_after Rearms p = p
pending_after Enables p = p
pending_after Disables p = p

unfoldable pub pending_in : History → ℕ
pending_in [] = 0
pending_in (t ∷ past) = cond (is_accepted t) (pending_after (access t) (pending_in past)) (pending_in past)

-- "p and 0x27 joins masked"; a rearm clears it
abbrev pub masked_after : Access → ℕ → ℕ
masked_after None q = q
masked_after Starts q = q
masked_after (Steps v) q = q
masked_after (Submits v) q = q
masked_after (Leaves v) q = q
masked_after (Acknowledges x) q = with_bits q (only_bits (acknowledged x) 0x27)
masked_after (Drains v) q = q
masked_after Rearms q = 0
masked_after Enables q = q
masked_after Disables q = q

unfoldable pub masked_in : History → ℕ
masked_in [] = 0
masked_in (t ∷ past) = cond (is_accepted t) (masked_after (access t) (masked_in past)) (masked_in past)

-- "Enable and disable set the flag"; "first disable, in the start call"
abbrev pub flag_after : Access → Bool → Bool
flag_after None b = b
flag_after Starts b = false
flag_after (Steps v) b = b
flag_after (Submits v) b = b
flag_after (Leaves v) b = b
flag_after (Acknowledges x) b = b
flag_after (Drains v) b = b
flag_after Rearms b = b
flag_after Enables b = true
flag_after Disables b = false

unfoldable pub flag_in : History → Bool
flag_in [] = false
flag_in (t ∷ past) = cond (is_accepted t) (flag_after (access t) (flag_in past)) (flag_in past)

-- ---- bring-up, by its readings: 1 USBCMD, 2 USBSTS, 3 and 4 USBCMD, 5 USBCMD, 6 USBSTS; 0 where none is begun

-- "wait for USBSTS bit 12", "wait for bit 1 clear", "wait for bit 12 clear"
abbrev pub is_ready : ℕ → ℕ → Bool
is_ready n v = cond (eqb n 2) (any_of v 0x1000) (cond (eqb n 4) (not (any_of v 2)) (cond (eqb n 6) (not (any_of v 0x1000)) true))

-- a step that is accepted goes on where the reading is ready, and is repeated where it is not; 7 ends it
abbrev pub read_after : Access → Result Answered Refusal → ℕ → ℕ
read_after None a n = n
read_after Starts a n = cond (is_done a) 1 n
read_after (Steps v) a n =
    cond (is_done a) (cond (is_ready n v) (cond (eqb n 6) 0 (n + 1)) n) (cond (eqb (answered_number a) 7) 0 n)
read_after (Submits v) a n = n
read_after (Leaves v) a n = n
read_after (Acknowledges x) a n = n
read_after (Drains v) a n = n
read_after Rearms a n = n
read_after Enables a n = n
read_after Disables a n = n

unfoldable pub read_in : History → ℕ
read_in [] = 0
read_in (t ∷ past) = read_after (access t) t.answer (read_in past)

-- ---- what each call writes

-- EHCI 2.3: USBCMD is at 0, USBSTS at 4, USBINTR at 8
abbrev pub usbcmd : ℕ → List Write
usbcmd v = write_of 0 v ∷ []

abbrev pub usbintr : ℕ → List Write
usbintr v = write_of 8 v ∷ []

-- "Only a ring .. writes 0x40; every other USBCMD write, bring-up's too, drops it."
abbrev pub ring : ℕ → List Write
ring v = usbcmd (with_bits v 0x40)

abbrev pub plainly : ℕ → List Write
plainly v = usbcmd (without_bits v 0x40)

-- "USBINTR = read value without (p and 0x27), or 0 if the .. flag reading given is off"
abbrev pub masked_by : Bool → ℕ → ℕ → ℕ
masked_by flag interrupts p = cond flag (without_bits interrupts (only_bits p 0x27)) 0

abbrev pub differ : Bool → Bool → Bool
differ a b = cond a (not b) b

-- "0 does nothing .. Write USBSTS = p; USBINTR = ..; if the second differs, write by that"
abbrev pub acknowledge_writes : InterruptReadings → ℕ → List Write
acknowledge_writes x p =
    cond (eqb p 0) []
    (write_of 4 p
    ∷ write_of 8 (masked_by x.flag x.interrupts p)
    ∷ cond (differ x.flag x.again) (usbintr (masked_by x.again x.interrupts p)) [])

-- "CTRLDSSEGMENT 0, PERIODICLISTBASE and ASYNCLISTADDR (area addresses), CONFIGFLAG 1, USBSTS 0x3F"
abbrev pub set_up : Settings → List Write
set_up s = write_of 0x10 0 ∷ write_of 0x14 s.frames ∷ write_of 0x18 s.heads ∷ write_of 0x40 1 ∷ write_of 4 0x3F ∷ []

-- "USBCMD without 0x31; .. USBCMD or 2; .. then .., USBCMD or 0x31"
abbrev pub step_writes : Settings → ℕ → ℕ → List Write
step_writes s n v =
    cond (eqb n 1) (plainly (without_bits v 0x31))
    (cond (eqb n 3) (plainly (with_bits v 2))
    (cond (eqb n 4) (cond (any_of v 2) [] (set_up s))
    (cond (eqb n 5) (plainly (with_bits v 0x31)) [])))

-- "If the doorbell is down and an unlink is unanswered, write USBCMD read value or 0x40"; in a drain that counts, "rung again if unlinks
-- remain"; and nothing else rings
abbrev pub ringing : E.Event → Bell → Bool → Bool
ringing E.Other b remain = false
ringing E.Reads b remain = false
ringing E.Drains b remain = is_answered b && remain
ringing (E.Submits k id r) b remain = false
ringing (E.Unlinks k) b remain = not (is_up b)
ringing (E.Parts k frame) b remain = false
ringing (E.Collects k id frame) b remain = false

-- unlinks remain when one more is counted
abbrev pub is_left : Settings → History → Bool
is_left s h = ltb (counted s h + 1) (asked s h)

abbrev pub rings_by : Settings → History → Turn → Bool
rings_by s h t = ringing (event s t) (bell s h) (is_left s h)

abbrev pub writes_for : Settings → History → Turn → Access → List Write
writes_for s h t None = []
writes_for s h t Starts = cond (is_accepted t) (usbintr 0) []
writes_for s h t (Steps v) = cond (is_accepted t) (step_writes s (read_in h) v) []
writes_for s h t (Submits v) = cond (is_accepted t) (plainly (with_bits v 0x31)) []
writes_for s h t (Leaves v) = cond (rings_by s h t) (ring v) []
writes_for s h t (Acknowledges x) = cond (is_accepted t) (acknowledge_writes x (acknowledged x)) []
writes_for s h t (Drains v) = cond (rings_by s h t) (ring v) []
-- "if masked is not 0 .. write USBINTR 0x27 or 0 by the flag"
writes_for s h t Rearms = cond (is_accepted t && not (eqb (masked_in h) 0)) (usbintr (cond (flag_in h) 0x27 0)) []
-- "write 0x27 and 0"
writes_for s h t Enables = cond (is_accepted t) (usbintr 0x27) []
writes_for s h t Disables = cond (is_accepted t) (usbintr 0) []

-- after any calls, what any next call writes: these, in this order, and nothing else
abbrev pub WritesExactly : Promise
WritesExactly = Always (λ s h w. (c : Call) → (turn_by w c).wrote ≡ writes_for s h (turn_by w c) (access_of c))

-- ---- so USBSTS

-- the values that are written to a register
abbrev pub values_at : ℕ → List Write → List ℕ
values_at offset [] = []
values_at offset (x ∷ xs) = cond (eqb x.offset offset) (x.value ∷ values_at offset xs) (values_at offset xs)

-- an acknowledgment writes exactly the bits of 0x37 that it read, once, if there are any; the fourth reading of bring-up writes 0x3F
abbrev pub status_for : History → Turn → Access → List ℕ
status_for h t None = []
status_for h t Starts = []
status_for h t (Steps v) = cond (is_accepted t && (eqb (read_in h) 4 && not (any_of v 2))) (0x3F ∷ []) []
status_for h t (Submits v) = []
status_for h t (Leaves v) = []
status_for h t (Acknowledges x) = cond (is_accepted t && not (eqb (acknowledged x) 0)) (acknowledged x ∷ []) []
status_for h t (Drains v) = []
status_for h t Rearms = []
status_for h t Enables = []
status_for h t Disables = []

abbrev pub StatusAcknowledged : Promise
StatusAcknowledged = Always (λ s h w. (c : Call) → values_at 4 (turn_by w c).wrote ≡ status_for h (turn_by w c) (access_of c))

-- and no ring is out while bring-up is begun
abbrev pub QuietBringUp : Promise
QuietBringUp = Always (λ s h w. (read_in h ≡ 0 → ⊥) → bell s h ≡ Quiet)

-- ---- so the doorbell

abbrev pub ring_count : List Write → ℕ
ring_count [] = 0
ring_count (x ∷ xs) = flag_number (is_ring x) + ring_count xs

-- a turn rings once or not at all: an unlink with no ring out before it rings, and a drain that counts with unlinks left, and nothing else;
-- and after it an unlink is unanswered
pub record RingsNow (s : Settings) (h : History) (w : Moment) (c : Call) : Type 0 where
  pub once : ring_count (turn_by w c).wrote ≡ flag_number (rings_by s h (turn_by w c))
  pub owed : rings (turn_by w c) ≡ true → counted s (turn_by w c ∷ h) < asked s (turn_by w c ∷ h)

abbrev pub RingsInTurn : Promise
RingsInTurn = Always (λ s h w. (c : Call) → RingsNow s h w c)

-- ---- what is answered

-- "nothing pending gives Nothing .. PortChange 0 .. TransferActivity 1 .. Stopped"
abbrev pub event_in : ℕ → List ℕ
event_in p =
    cond (eqb p 0) (0 ∷ 0 ∷ []) (cond (any_of p 4) (1 ∷ 0 ∷ []) (cond (any_of p 0x23) (2 ∷ 1 ∷ []) (3 ∷ 0 ∷ [])))

abbrev pub Answers : Moment → Call → List ℕ → Type 0
Answers w c vs = (answered_number (w.does c).reply.answer ≡ 0) × (answered_values (w.does c).reply.answer ≡ vs)

-- "0 .. answers no, else yes"; a drain by what is pending; the others 0 alone
pub record InterruptsNow (h : History) (w : Moment) : Type 0 where
  pub acknowledges : (x : InterruptReadings) → Answers w (Acknowledge x) (flag_number (not (eqb (acknowledged x) 0)) ∷ [])
  pub drains_pending : (v : ℕ) → Answers w (Drain v) (event_in (pending_in h))
  pub rearms : Answers w Rearm []
  pub enables : Answers w Enable []
  pub disables : Answers w Disable []

abbrev pub InterruptsAnswered : Promise
InterruptsAnswered = Always (λ s h w. InterruptsNow h w)

-- ---- the law that ties the state's fields to the history

pub record Kept (h : History) (w : Moment) : Type 0 where
  pub pending : w.view.pending ≡ pending_in h
  pub masked : w.view.masked ≡ masked_in h
  pub enabled : w.view.enabled ≡ flag_number (flag_in h)
  pub step : w.view.step ≡ read_in h

abbrev pub RegistersTied : Promise
RegistersTied = Always (λ s h w. Kept h w)
