-- The way up of a wrong machine, which does there as `core` does.
use Rattle.std.specs.Prelude.{Ok, Result}
use Prim.Native.Nat.{ℕ}
use mathlib.Core.Path.{◌≡◌, refl, ap, ◌∙◌}
use mathlib.Core.Bool.{Bool, true, false}
use mathlib.Core.List.{List, [], ◌∷◌}
use lib.Dec.{eqb, leb}
use Rattle.register.specs.Bits.{any_of, bit}
use Rattle.bring_up.specs.BringUp.{moved_on, ready, stage_of}
use Rattle.ehci.specs.declared.call.Call.{Call}
use Rattle.ehci.specs.declared.call.Call.TheVariants.{StartBringUp, BringUpStep, OpenEndpoint}
use Rattle.ehci.specs.declared.call.EndpointFields.{EndpointFields}
use Rattle.promises.specs.Runs.{Machine, World, in_plain, core, left_by, world_of, history_of}
use Rattle.promises.specs.Registers.{Access, None, Starts, Steps, Submits, Leaves, Acknowledges, Drains, Rearms, Enables, Disables, access_of}
use Rattle.promises.proofs.invariants.Reached.{fresh_world}
use Rattle.refutations.proofs.WrongRuns.{fresh, open_bulk, opened_one, opened_two, opens, opens_one, opens_two, rising, small, starts, state_of, steps, answers_one, answers_two}
use Rattle.promises.specs.Slots.{change_by, size_in, size_of, slot_after, slot_in}
use Rattle.ehci.specs.Door.{Applied}
use Rattle.ehci.specs.declared.reply.Given.TheVariants as G
use Rattle.ehci.specs.declared.reply.Answered.TheVariants.{Done}
use Rattle.ehci.specs.declared.reply.Answered.{Answered}
use Rattle.common.specs.declared.answer.Refusal.{Refusal}

-- what a call asks of the registers, by number
abbrev pub order : Access → ℕ
order None = 0
order Starts = 1
order (Steps v) = 2
order (Submits v) = 3
order (Leaves v) = 4
order (Acknowledges x) = 5
order (Drains v) = 6
order Rearms = 7
order Enables = 8
order Disables = 9

abbrev status_in : Access → ℕ
status_in None = 0
status_in Starts = 0
status_in (Steps v) = 0
status_in (Submits v) = 0
status_in (Leaves v) = 0
status_in (Acknowledges x) = x.status
status_in (Drains v) = 0
status_in Rearms = 0
status_in Enables = 0
status_in Disables = 0

abbrev pub is_drain : Call → Bool
is_drain c = eqb (order (access_of c)) 6

-- an acknowledgment that reads the advance bit
abbrev pub reads_advance : Call → Bool
reads_advance c = eqb (bit (status_in (access_of c)) 5) 1

-- it does as `core` does on the way up
pub record Rises (m : Machine in_plain) : Type 0 where
  pub starts : (w : World) → w.state.noted ≡ 0 → m w StartBringUp ≡ core w StartBringUp
  pub steps : (w : World) (v : ℕ) → w.state.noted ≡ 0 → m w (BringUpStep v) ≡ core w (BringUpStep v)
  pub opens : (w : World) (x : EndpointFields) → w.state.noted ≡ 0 → m w (OpenEndpoint x) ≡ core w (OpenEndpoint x)

-- it differs from `core` at most in drains and acknowledgments, and with a note
abbrev pub Plainly : Machine in_plain → Type 0
Plainly m = (w : World) (c : Call) → is_drain c ≡ false → reads_advance c ≡ false → w.state.noted ≡ 0 → m w c ≡ core w c

pub plain_rises : (m : Machine in_plain) → Plainly m → Rises m
plain_rises m same =
    record {
      starts = λ w. same w StartBringUp refl refl;
      steps = λ w v. same w (BringUpStep v) refl refl;
      opens = λ w x. same w (OpenEndpoint x) refl refl;
    }

abbrev pub run_calls : List Call
run_calls =
    BringUpStep 0
    ∷ BringUpStep 0x80000
    ∷ BringUpStep 0x80000
    ∷ BringUpStep 0x80000
    ∷ BringUpStep 0x1000
    ∷ BringUpStep 0x80000
    ∷ StartBringUp
    ∷ []

abbrev pub up_calls : List Call
up_calls = open_bulk 5 2 ∷ open_bulk 5 1 ∷ run_calls

pub next : (m : Machine in_plain) (cs : List Call) (c : Call) (now then : World) → world_of m (fresh_world small) cs ≡ now → m now c ≡ core now c
    → left_by (core now c) ≡ then → world_of m (fresh_world small) (c ∷ cs) ≡ then
unfolding world_of
next m cs c now then e same q = ap (λ (x : World). left_by (m x c)) e ∙ ap left_by same ∙ q

module _ (m : Machine in_plain) (same : Rises m) where
  -- one step of bring-up
  rises : (cs : List Call) (k v : ℕ) → world_of m (fresh_world small) cs ≡ fresh (rising 0 k) → leb k 6 ≡ true → eqb k 0 ≡ false → ready (stage_of k) v ≡ true
      → world_of m (fresh_world small) (BringUpStep v ∷ cs) ≡ fresh (rising (moved_on (stage_of k)).running (moved_on (stage_of k)).step)
  unfolding state_of
  rises cs k v e a b g = next m cs (BringUpStep v) (fresh (rising 0 k)) _ e (same.steps (fresh (rising 0 k)) v refl) (steps k v a b g)

  pub run_world : world_of m (fresh_world small) run_calls ≡ fresh (rising 1 0)
  unfolding world_of state_of any_of
  run_world =
      let started = next m [] StartBringUp (fresh (rising 0 0)) (fresh (rising 0 1)) opens (same.starts (fresh (rising 0 0)) refl) starts in
      let r1 = rises (StartBringUp ∷ []) 1 0x80000 started refl refl refl in
      let r2 = rises (BringUpStep 0x80000 ∷ StartBringUp ∷ []) 2 0x1000 r1 refl refl refl in
      let c2 = BringUpStep 0x1000 ∷ BringUpStep 0x80000 ∷ StartBringUp ∷ [] in
      let r3 = rises c2 3 0x80000 r2 refl refl refl in
      let r4 = rises (BringUpStep 0x80000 ∷ c2) 4 0x80000 r3 refl refl refl in
      let r5 = rises (BringUpStep 0x80000 ∷ BringUpStep 0x80000 ∷ c2) 5 0x80000 r4 refl refl refl in
      rises (BringUpStep 0x80000 ∷ BringUpStep 0x80000 ∷ BringUpStep 0x80000 ∷ c2) 6 0 r5 refl refl refl

  pub up_world : world_of m (fresh_world small) up_calls ≡ opened_two
  unfolding state_of
  up_world =
      let o1 = next m run_calls (open_bulk 5 1) (fresh (rising 1 0)) opened_one run_world (same.opens (fresh (rising 1 0)) _ refl) opens_one in
      next m (open_bulk 5 1 ∷ run_calls) (open_bulk 5 2) opened_one opened_two o1 (same.opens opened_one _ refl) opens_two

  -- slot 0 is opened with packets of 512
  pub up_size : size_in 0 (history_of m (fresh_world small) up_calls) ≡ 512
  unfolding history_of slot_in state_of
  up_size =
      let run = run_world in
      let o1 = next m run_calls (open_bulk 5 1) (fresh (rising 1 0)) opened_one run (same.opens (fresh (rising 1 0)) _ refl) opens_one in
      let one : (m (world_of m (fresh_world small) run_calls) (open_bulk 5 1)).reply.answer ≡ Ok (Done (G.Slot 0))
      = ap (λ (v : World). (m v (open_bulk 5 1)).reply.answer) run ∙ ap (λ (a : Applied). a.reply.answer) (same.opens (fresh (rising 1 0)) _ refl) ∙ answers_one in
      let two : (m (world_of m (fresh_world small) (open_bulk 5 1 ∷ run_calls)) (open_bulk 5 2)).reply.answer ≡ Ok (Done (G.Slot 1))
      = ap (λ (v : World). (m v (open_bulk 5 2)).reply.answer) o1 ∙ ap (λ (a : Applied). a.reply.answer) (same.opens opened_one _ refl) ∙ answers_two in
      ap (λ (a : (Result Answered Refusal)). size_of (slot_after 0 (change_by (open_bulk 5 2) a) (slot_in 0 (history_of m (fresh_world small) (open_bulk 5 1 ∷ run_calls))))) two
      ∙ ap (λ (a : (Result Answered Refusal)). size_of (slot_after 0 (change_by (open_bulk 5 1) a) (slot_in 0 (history_of m (fresh_world small) run_calls)))) one
