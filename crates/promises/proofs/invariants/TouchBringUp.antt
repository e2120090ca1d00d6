-- Bring-up's start and its steps; and every call.
use Rattle.std.specs.Prelude.{Err, Ok, Some}
use Prim.Native.Nat.{ℕ, ◌+◌, ◌≤◌}
use mathlib.Core.Bool.{Bool, true, false, not, cond, true≢false, false≢true}
use mathlib.Core.List.{[], ◌∷◌}
use mathlib.Core.Path.{◌≡◌, refl, sym, subst, ◌∙◌}
use native.Mathlib.Decide.{ℕ_discrete as dec_eq}
use native.Mathlib.Omega.{arith}
use borrow.Author.Tests.{eqb-false}
use lib.Dec.{eqb, ltb}
use Rattle.register.specs.Bits.{any_of}
use Rattle.register.specs.Writes.{and_then, list_of, no_writes}
use Rattle.settings.specs.declared.settings.Settings.{Settings}
use Rattle.state.specs.Ranges.{in_ranges}
use Rattle.state.specs.State.{with_bring_up}
use Rattle.state.specs.Plain.{Ehci}
use Rattle.state.proofs.RangesLaws.{Ranges}
use Rattle.common.specs.Answers.{first, passed}
use Rattle.common.specs.declared.answer.Refusal.{Refusal}
use Rattle.common.specs.declared.answer.Refusal.TheVariants.{InvalidParameter, QueueFull}
use Rattle.common.proofs.CheckLaws.{let_pass, settled_by}
use Rattle.schedule.specs.Bell.{command_word}
use Rattle.bring_up.specs.BringUp.{again_of, any_uncollected, moved_on, onward_of, ready, register_of, set_up, stage_of, stage_writes, start_of, step_of}
use Rattle.bring_up.specs.Plain.{BroughtUp}
use Rattle.bring_up.specs.declared.stage.Stage.{Stage}
use Rattle.ehci.specs.declared.call.Call.{Call}
use Rattle.ehci.specs.declared.call.Call.TheVariants.{StartBringUp, BringUpStep, AllocateAddress, OpenEndpoint, Close, SetAddress, SetPacketSize, Submit, Writeback, Cancel, Collect, Acknowledge, Drain, Rearm, Enable, Disable, ClearHalt}
use Rattle.ehci.specs.Replies.{brought_reply, replied}
use Rattle.promises.specs.Runs.{World, core}
use Rattle.promises.specs.Registers as R
use Rattle.promises.specs.Registers.{is_ready, step_writes}
use Rattle.promises.proofs.effects.EffectDoor.{leaves, through, carried}
use Rattle.promises.proofs.effects.RefusalNumbers.{undone}
use Rattle.bring_up.specs.declared.stage.Stage.TheVariants.{Stop, Halting, Reset, Resetting, Run, Starting}
use Rattle.promises.proofs.effects.EffectMachine.{step_refuses}
use Rattle.promises.proofs.invariants.TouchCalls.{address_touches, allot_touches, cancel_touches, clear_touches, close_touches, collect_touches, open_touches, size_touches, submit_touches, writeback_touches}
use Rattle.promises.proofs.invariants.TouchInterrupts.{acknowledge_touches, disable_touches, drain_touches, enable_touches, rearm_touches}
use Rattle.promises.proofs.invariants.Touches.{Touches, refused_touches}

-- a reading of bring-up, by its number
record Staged (z : Settings) (n v : ℕ) (stage : Stage) : Type 0 where
  next : (moved_on stage).step ≡ cond (eqb n 6) 0 (n + 1)
  is_ready_lem : ready stage v ≡ is_ready n v
  writes : is_ready n v ≡ true → list_of (stage_writes stage v z.frames z.heads) ≡ step_writes z n v
  none : is_ready n v ≡ false → step_writes z n v ≡ []

module _ (z : Settings) (v : ℕ) where
  resetting : (b : Bool) → any_of v 2 ≡ b → not b ≡ true → list_of (stage_writes Resetting v z.frames z.heads) ≡ cond b [] (R.set_up z)
  unfolding set_up and_then no_writes
  resetting true e q = absurd (false≢true q)
  resetting false e q = refl

  unready : (b : Bool) → not b ≡ false → cond b [] (R.set_up z) ≡ []
  unready true q = refl
  unready false q = absurd (true≢false q)

  one : Staged z 1 v Stop
  unfolding and_then no_writes command_word
  one = record { next = refl; is_ready_lem = refl; writes = λ e. refl; none = λ e. absurd (true≢false e) }

  two : Staged z 2 v Halting
  unfolding no_writes
  two = record { next = refl; is_ready_lem = refl; writes = λ e. refl; none = λ e. refl }

  three : Staged z 3 v Reset
  unfolding and_then no_writes command_word
  three = record { next = refl; is_ready_lem = refl; writes = λ e. refl; none = λ e. absurd (true≢false e) }

  four : Staged z 4 v Resetting
  four = record { next = refl; is_ready_lem = refl; writes = resetting (any_of v 2) refl; none = unready (any_of v 2) }

  five : Staged z 5 v Run
  unfolding and_then no_writes command_word
  five = record { next = refl; is_ready_lem = refl; writes = λ e. refl; none = λ e. absurd (true≢false e) }

  six : Staged z 6 v Starting
  unfolding no_writes
  six = record { next = refl; is_ready_lem = refl; writes = λ e. refl; none = λ e. refl }

  least : (n : ℕ) → (n ≡ 0 → ⊥) → 1 ≤ n
  least n ne = omega arith

  above : (n k : ℕ) → k ≤ n → (n ≡ k → ⊥) → k + 1 ≤ n
  above n k l ne = omega arith

  beyond : (n : ℕ) → n ≤ 6 → 7 ≤ n → ⊥
  beyond n l h = omega arith

  staged : (n : ℕ) → (n ≡ 0 → ⊥) → n ≤ 6 → Staged z n v (stage_of n)
  staged n begun most = by (dec_eq n 1) (dec_eq n 2) (dec_eq n 3) (dec_eq n 4) (dec_eq n 5) (dec_eq n 6)
    where
      at : (k : ℕ) → n ≡ k → Staged z k v (stage_of k) → Staged z n v (stage_of n)
      at k e x = subst (λ (i : ℕ). Staged z i v (stage_of i)) (sym e) x

      by : Dec (n ≡ 1) → Dec (n ≡ 2) → Dec (n ≡ 3) → Dec (n ≡ 4) → Dec (n ≡ 5) → Dec (n ≡ 6) → Staged z n v (stage_of n)
      by (yes e) b c d f g = at 1 e one
      by (no a) (yes e) c d f g = at 2 e two
      by (no a) (no b) (yes e) d f g = at 3 e three
      by (no a) (no b) (no c) (yes e) f g = at 4 e four
      by (no a) (no b) (no c) (no d) (yes e) g = at 5 e five
      by (no a) (no b) (no c) (no d) (no f) (yes e) = at 6 e six
      by (no a) (no b) (no c) (no d) (no f) (no g) =
          absurd (beyond n most (above n 6 (above n 5 (above n 4 (above n 3 (above n 2 (above n 1 (least n begun) a) b) c) d) f) g))

module _ (w : World) where
  abbrev s : Ehci
  s = w.state

  pub start_touches : Touches w StartBringUp (core w StartBringUp)
  unfolding start_of brought_reply replied with_bring_up and_then no_writes
  start_touches =
      through Touches w StartBringUp (refused_touches w StartBringUp InvalidParameter refl refl)
      (settled_by (first ((not (in_ranges s), InvalidParameter) ∷ (any_uncollected 0 32 s, QueueFull) ∷ [])) _
      (record { answer = Ok tt; state = with_bring_up s 0 1 0 0; writes = and_then no_writes 8 0; read = Some 0; wait = 0 })
      (λ (b : BroughtUp). Touches w StartBringUp (carried w (brought_reply b)))
      (λ r e. refused_touches w StartBringUp r (rw (undone r)) (rw (undone r)))
      (λ e. record { pending = refl; masked = refl; enabled = λ b q. refl; step = refl; wrote = refl }))

  module _ (v : ℕ) where
    abbrev Stepped : BroughtUp → Type 0
    Stepped b = Touches w (BringUpStep v) (carried w (brought_reply b))

    again_touches : (register : ℕ) → is_ready s.step v ≡ false → step_writes s.settings s.step v ≡ [] → Stepped (again_of s register)
    unfolding again_of brought_reply replied with_bring_up no_writes
    again_touches register wait none = by (ltb (s.waited + 1) s.settings.wait) refl
      where
        by : (b : Bool) → ltb (s.waited + 1) s.settings.wait ≡ b → Stepped (again_of s register)
        by true e = rw e (record { pending = refl; masked = refl; enabled = λ b q. q; step = sym (rw wait); wrote = sym none })
        by false e = rw e (record { pending = refl; masked = refl; enabled = λ b q. q; step = refl; wrote = refl })

    onward_touches : (stage : Stage) → Staged s.settings s.step v stage → is_ready s.step v ≡ true → Stepped (onward_of s stage v)
    unfolding onward_of brought_reply replied with_bring_up
    onward_touches stage x go =
        record { pending = refl; masked = refl; enabled = λ b q. q; step = x.next ∙ sym (rw go); wrote = x.writes go }

    stage_touches : (stage : Stage) (b : Bool) → Staged s.settings s.step v stage → is_ready s.step v ≡ b → Stepped (cond b (onward_of s stage v) (again_of s (register_of stage)))
    stage_touches stage true x e = onward_touches stage x e
    stage_touches stage false x e = again_touches (register_of stage) e (x.none e)

    pub step_touches : Ranges s → Touches w (BringUpStep v) (core w (BringUpStep v))
    unfolding step_of brought_reply replied no_writes
    step_touches ranges =
        through Touches w (BringUpStep v) (refused_touches w (BringUpStep v) InvalidParameter refl refl)
        (settled_by (first ((not (in_ranges s), InvalidParameter) ∷ (eqb s.step 0, InvalidParameter) ∷ [])) _ _ Stepped
        (λ r e. subst (λ (x : Refusal). Touches w (BringUpStep v) (leaves w (BringUpStep v) s (Err x) no_writes)) (step_refuses (not (in_ranges s)) (eqb s.step 0) r e)
        (refused_touches w (BringUpStep v) InvalidParameter refl refl))
        (λ e.
        let begun = eqb-false s.step 0 (let_pass (eqb s.step 0) InvalidParameter passed
        (let_pass (not (in_ranges s)) InvalidParameter (first ((eqb s.step 0, InvalidParameter) ∷ [])) e).1).0 in
        let x = staged s.settings v s.step begun ranges.step_most in
        stage_touches (stage_of s.step) (ready (stage_of s.step) v) x (sym x.is_ready_lem)))

  pub touches : Ranges s → (c : Call) → Touches w c (core w c)
  touches ranges StartBringUp = start_touches
  touches ranges (BringUpStep v) = step_touches v ranges
  touches ranges AllocateAddress = allot_touches w
  touches ranges (OpenEndpoint x) = open_touches w x
  touches ranges (Close k) = close_touches w k
  touches ranges (SetAddress k a) = address_touches w k a
  touches ranges (SetPacketSize k size) = size_touches w k size
  touches ranges (Submit k t readings) = submit_touches w k t readings
  touches ranges (Writeback place token) = writeback_touches w place token
  touches ranges (Cancel k id readings) = cancel_touches w k id readings
  touches ranges (Collect k id readings) = collect_touches w k id readings
  touches ranges (Acknowledge x) = acknowledge_touches w x
  touches ranges (Drain v) = drain_touches w v
  touches ranges Rearm = rearm_touches w
  touches ranges Enable = enable_touches w
  touches ranges Disable = disable_touches w
  touches ranges (ClearHalt k) = clear_touches w k
