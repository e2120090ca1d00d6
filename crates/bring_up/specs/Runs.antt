-- What any bring-up does, from its start and over the readings that it is fed, one a step.
use Rattle.std.specs.Prelude.{◌≡◌, ℕ, ◌+◌, ◌*◌, true, false, ◌⊎◌, List, [], ◌∷◌, map, length, ◌≢◌, None, Option, Some}
use Rattle.register.specs.Bits.{with_bits, without_bits, any_of}
use Rattle.register.specs.Writes.{write_of, list_of}
use Rattle.register.specs.declared.writes.Write.{Write}
use Rattle.register.specs.declared.writes.Writes.{Writes}
use Rattle.state.specs.Plain.{Ehci}
use Rattle.state.specs.Ranges.{in_ranges}
use Rattle.state.specs.State.{with_bring_up}
use Rattle.common.specs.Answers.{number_of}
use Rattle.common.specs.declared.answer.Refusal.TheVariants.{Timeout}
use Rattle.schedule.specs.Bell.{command_word}
use Rattle.bring_up.specs.declared.stage.Stage.{Stage}
use Rattle.bring_up.specs.declared.stage.Stage.TheVariants.{Stop, Halting, Reset, Resetting, Run, Starting}
use Rattle.bring_up.specs.Plain.{BroughtUp}
use Rattle.bring_up.specs.BringUp.{any_uncollected, stage_of, register_of, ready, refused_bring_up, start_of, step_of}

-- ---- what is seen of an answer: 01's number, the writes, the milliseconds, the register to read, and whether it runs

pub record Seen : Type 0 where
  pub number : ℕ
  pub writes : List Write
  pub wait : ℕ
  pub read : Option ℕ
  pub running : ℕ

abbrev pub seen : BroughtUp → Seen
seen r =
    record {
      number = number_of r.answer;
      writes = list_of r.writes;
      wait = r.wait;
      read = r.read;
      running = r.state.running;
    }

-- the steps that readings make
abbrev pub seen_by : Ehci → List ℕ → List Seen
seen_by s [] = []
seen_by s (v ∷ vs) = seen (step_of s v) ∷ seen_by (step_of s v).state vs

abbrev pub row : List Write → ℕ → Option ℕ → ℕ → Seen
row writes wait read running = record { number = 0; writes = writes; wait = wait; read = read; running = running }

-- fed ready readings it ends running with the sixth, and each answer is 01's
abbrev pub SixReadings : Type 0
SixReadings =
    (s : Ehci) (v₁ v₂ v₃ v₄ v₅ v₆ : ℕ) → in_ranges s ≡ true → any_uncollected 0 32 s ≡ false
    → any_of v₂ 0x1000 ≡ true → any_of v₄ 2 ≡ false → any_of v₆ 0x1000 ≡ false
    → seen (start_of s) ∷ seen_by (start_of s).state (v₁ ∷ v₂ ∷ v₃ ∷ v₄ ∷ v₅ ∷ v₆ ∷ [])
    ≡ row (write_of 8 0 ∷ []) 0 (Some 0) 0
    ∷ row (write_of 0 (command_word (without_bits v₁ 0x31)) ∷ []) 0 (Some 4) 0
    ∷ row [] 0 (Some 0) 0
    ∷ row (write_of 0 (command_word (with_bits v₃ 2)) ∷ []) 0 (Some 0) 0
    ∷ row
    (write_of 0x10 0
    ∷ write_of 0x14 s.settings.frames
    ∷ write_of 0x18 s.settings.heads
    ∷ write_of 0x40 1
    ∷ write_of 4 0x3F
    ∷ [])
    0 (Some 0) 0
    ∷ row (write_of 0 (command_word (with_bits v₅ 0x31)) ∷ []) 0 (Some 4) 0
    ∷ row [] 100 None 1
    ∷ []

-- ---- the end

-- nothing to read next: in 0, running, or in 7, not running
abbrev pub Ended : BroughtUp → Type 0
Ended r =
    (r.read ≡ None)
    × (r.state.step ≡ 0)
    × (((number_of r.answer ≡ 0) × (r.state.running ≡ 1)) ⊎ ((number_of r.answer ≡ 7) × (r.state.running ≡ 0)))

-- accepted, not running, and the register that is asked for is the one that the next step takes its reading for
abbrev pub GoesOn : BroughtUp → Type 0
GoesOn r =
    (number_of r.answer ≡ 0)
    × (r.state.running ≡ 0)
    × (r.state.step ≢ 0)
    × (r.read ≡ Some (register_of (stage_of r.state.step)))

-- it goes on up to one of the readings, and ends with that
abbrev pub EndsBy : Ehci → List ℕ → Type 0
EndsBy s [] = ⊥
EndsBy s (v ∷ vs) = Ended (step_of s v) ⊎ (GoesOn (step_of s v) × EndsBy (step_of s v).state vs)

-- whatever the readings are, it ends after at most 3 W + 3 steps
abbrev pub EndsInTime : Type 0
EndsInTime =
    (s : Ehci) (vs : List ℕ) → in_ranges s ≡ true → any_uncollected 0 32 s ≡ false
    → length vs ≡ 3 * s.settings.wait + 3 → EndsBy (start_of s).state vs

-- ---- a wait that is never ready

-- none of the readings is ready for a stage
abbrev pub NoneReady : Stage → List ℕ → Type 0
NoneReady stage [] = Unit {0}
NoneReady stage (v ∷ vs) = (ready stage v ≡ false) × NoneReady stage vs

-- it goes on up to the last of the readings, and that answers 7 and leaves only running, the step and its reads changed
abbrev pub LateAt : Ehci → List ℕ → Type 0
LateAt s [] = ⊥
LateAt s (v ∷ []) = step_of s v ≡ refused_bring_up (with_bring_up s 0 0 0 s.enabled) Timeout
LateAt s (v ∷ w ∷ vs) = GoesOn (step_of s v) × LateAt (step_of s v).state (w ∷ vs)

-- the W-th read of a wait, and no earlier one
abbrev pub LateAtW : Type 0
LateAtW =
    (s : Ehci) (vs : List ℕ) → in_ranges s ≡ true → (s.step ≢ 0) → s.waited ≡ 0 → length vs ≡ s.settings.wait
    → NoneReady (stage_of s.step) vs → LateAt s vs

-- ---- the registers

abbrev pub offsets : Writes → List ℕ
offsets w = map (λ (x : Write). x.offset) (list_of w)

-- those that 01 names for a stage
abbrev pub named_for : Stage → List ℕ
named_for Stop = 0 ∷ []
named_for Halting = []
named_for Reset = 0 ∷ []
named_for Resetting = 0x10 ∷ 0x14 ∷ 0x18 ∷ 0x40 ∷ 4 ∷ []
named_for Run = 0 ∷ []
named_for Starting = []

-- a step writes those of its stage, or none
abbrev pub OnlyNamed : Type 0
OnlyNamed =
    (s : Ehci) (v : ℕ)
    → (offsets (step_of s v).writes ≡ []) ⊎ (offsets (step_of s v).writes ≡ named_for (stage_of s.step))

-- the start writes USBINTR, or nothing
abbrev pub StartNamed : Type 0
StartNamed = (s : Ehci) → (offsets (start_of s).writes ≡ []) ⊎ (offsets (start_of s).writes ≡ 8 ∷ [])

-- ---- the state

-- after both calls it is in its ranges
abbrev pub StaysInRanges : Type 0
StaysInRanges =
    (s : Ehci) (v : ℕ) → in_ranges s ≡ true → (in_ranges (start_of s).state ≡ true) × (in_ranges (step_of s v).state ≡ true)
