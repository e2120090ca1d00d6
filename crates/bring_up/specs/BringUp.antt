-- Document 01, "Ports and bring-up": bringing the controller up, one register reading a step.
use Rattle.std.specs.Prelude.{ℕ, zero, suc, ◌+◌, Bool, true, false, cond, not, ◌||◌, [], ◌∷◌, ◌==◌, nat_lt, Err, None, Ok, Some}
use Rattle.register.specs.Bits.{with_bits, without_bits, any_of}
use Rattle.register.specs.Writes.{no_writes, and_then}
use Rattle.register.specs.declared.writes.Writes.{Writes}
use Rattle.state.specs.Plain.{Ehci}
use Rattle.state.specs.Ranges.{in_ranges}
use Rattle.state.specs.State.{with_bring_up}
use Rattle.common.specs.Answers.{first, settle}
use Rattle.controller.specs.Readers.{is_uncollected}
use Rattle.common.specs.declared.answer.Refusal.{Refusal}
use Rattle.common.specs.declared.answer.Refusal.TheVariants.{InvalidParameter, QueueFull, Timeout}
use Rattle.schedule.specs.Bell.{command_word}
use Rattle.bring_up.specs.declared.stage.Stage.{Stage}
use Rattle.bring_up.specs.declared.stage.Stage.TheVariants.{Stop, Halting, Reset, Resetting, Run, Starting}
use Rattle.bring_up.specs.declared.stage.Moved.{Moved}
use Rattle.bring_up.specs.Plain.{BroughtUp}

-- ---- any slot has an uncollected request: of n slots, from slot k on

unfoldable pub any_uncollected : ℕ → ℕ → Ehci → Bool
any_uncollected k zero s = false
any_uncollected k (suc n) s = is_uncollected s k || any_uncollected (suc k) n s

-- a slot's phase, by number, where it holds one: linked or unlinking
abbrev pub held_in : ℕ → Bool
held_in phase = phase == 2 || phase == 3

-- ---- the stages, numbered 1 to 6

abbrev pub stage_of : ℕ → Stage
stage_of n =
    cond (n == 1) Stop
    (cond (n == 2) Halting
    (cond (n == 3) Reset
    (cond (n == 4) Resetting
    (cond (n == 5) Run
    Starting))))

-- the register that is read: USBCMD 0, USBSTS 4
abbrev pub register_of : Stage → ℕ
register_of Stop = 0
register_of Halting = 4
register_of Reset = 0
register_of Resetting = 0
register_of Run = 0
register_of Starting = 4

-- "wait for USBSTS bit 12", "wait for bit 1 clear", "wait for bit 12 clear"; the others do not wait
abbrev pub ready : Stage → ℕ → Bool
ready Stop v = true
ready Halting v = any_of v 0x1000
ready Reset v = true
ready Resetting v = not (any_of v 2)
ready Run v = true
ready Starting v = not (any_of v 0x1000)

-- a USBCMD write that is no ring
abbrev pub command : ℕ → Writes
command value = and_then no_writes 0 (command_word value)

-- "CTRLDSSEGMENT 0, PERIODICLISTBASE and ASYNCLISTADDR (area addresses), CONFIGFLAG 1, USBSTS 0x3F"
unfoldable pub set_up : ℕ → ℕ → Writes
set_up frames heads =
    and_then (and_then (and_then (and_then (and_then no_writes 0x10 0) 0x14 frames) 0x18 heads) 0x40 1) 4 0x3F

-- "USBCMD without 0x31", "USBCMD or 2", the set-up, "USBCMD or 0x31"
abbrev pub stage_writes : Stage → ℕ → ℕ → ℕ → Writes
stage_writes Stop v frames heads = command (without_bits v 0x31)
stage_writes Halting v frames heads = no_writes
stage_writes Reset v frames heads = command (with_bits v 2)
stage_writes Resetting v frames heads = set_up frames heads
stage_writes Run v frames heads = command (with_bits v 0x31)
stage_writes Starting v frames heads = no_writes

abbrev pub on_to : ℕ → ℕ → Moved
on_to step register = record { running = 0; step = step; read = Some register; wait = 0 }

-- the stages follow one another; "not running till its end", "100 ms"
abbrev pub moved_on : Stage → Moved
moved_on Stop = on_to 2 4
moved_on Halting = on_to 3 0
moved_on Reset = on_to 4 0
moved_on Resetting = on_to 5 0
moved_on Run = on_to 6 4
moved_on Starting = record { running = 1; step = 0; read = None; wait = 100 }

-- ---- the calls

abbrev pub refused_bring_up : Ehci → Refusal → BroughtUp
refused_bring_up s r = record { answer = Err r; state = s; writes = no_writes; read = None; wait = 0 }

-- "first disable, in the start call"
unfoldable pub start_of : Ehci → BroughtUp
start_of s =
    settle (first ((not (in_ranges s), InvalidParameter) ∷ (any_uncollected 0 32 s, QueueFull) ∷ []))
    (refused_bring_up s)
    (record {
      answer = Ok tt;
      state = with_bring_up s 0 1 0 0;
      writes = and_then no_writes 8 0;
      read = Some 0;
      wait = 0;
    })

-- the reading is ready
unfoldable pub onward_of : Ehci → Stage → ℕ → BroughtUp
onward_of s stage v =
    record {
      answer = Ok tt;
      state = with_bring_up s (moved_on stage).running (moved_on stage).step 0 s.enabled;
      writes = stage_writes stage v s.settings.frames s.settings.heads;
      read = (moved_on stage).read;
      wait = (moved_on stage).wait;
    }

-- it is not: read again, "the W-th read of a wait is not ready" is 7
unfoldable pub again_of : Ehci → ℕ → BroughtUp
again_of s register =
    cond (nat_lt (s.waited + 1) s.settings.wait)
    (record {
      answer = Ok tt;
      state = with_bring_up s 0 s.step (s.waited + 1) s.enabled;
      writes = no_writes;
      read = Some register;
      wait = 0;
    })
    (refused_bring_up (with_bring_up s 0 0 0 s.enabled) Timeout)

abbrev pub stage_step : Ehci → Stage → ℕ → BroughtUp
stage_step s stage v = cond (ready stage v) (onward_of s stage v) (again_of s (register_of stage))

-- "a step with none begun (or after 7): 1"
unfoldable pub step_of : Ehci → ℕ → BroughtUp
step_of s v =
    settle (first ((not (in_ranges s), InvalidParameter) ∷ ((s.step == 0), InvalidParameter) ∷ []))
    (refused_bring_up s)
    (stage_step s (stage_of s.step) v)
