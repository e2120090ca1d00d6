-- Bring-up and the allotment of addresses: they touch neither slots, owners nor doorbell.
use Rattle.std.specs.Prelude.{Err, Ok}
use Prim.Native.Nat.{ℕ, zero, suc, ◌+◌, ◌≤◌, ◌<◌}
use mathlib.Core.Bool.{Bool, true, false, not, ◌||◌, cond}
use mathlib.Core.List.{[], ◌∷◌}
use mathlib.Core.Path.{◌≡◌, refl, sym, ap, subst, ◌∙◌}
use native.Mathlib.Decide.{ℕ_discrete as dec_eq}
use native.Mathlib.Omega.{arith}
use borrow.Author.Tests.{eqb-false, ltb-false, ltb-true}
use lib.Dec.{eqb, ltb}
use Rattle.register.specs.Bits.{with_bits, without_bits}
use Rattle.register.specs.Writes.{and_then, list_of, no_writes}
use Rattle.state.specs.Plain.{Ehci}
use Rattle.common.proofs.TestLaws.{false_true}
use Rattle.state.specs.Ranges.{in_ranges}
use Rattle.state.specs.Slots.{slot_at}
use Rattle.state.specs.State.{with_bring_up, with_next_address}
use Rattle.state.proofs.RangesLaws.{Ranges, ranges_make, ranges_tell}
use Rattle.common.specs.Answers.{Verdict, first, passed, refused}
use Rattle.common.proofs.CheckLaws.{let_pass, settled_by}
use Rattle.common.specs.declared.answer.Refusal.{Refusal}
use Rattle.common.specs.declared.answer.Refusal.TheVariants.{InvalidParameter, QueueFull, SlotLimitReached}
use Rattle.pipe.specs.Endpoints.{endpoint_at}
use Rattle.pipe.proofs.EndpointCases.{at_none}
use Rattle.controller.specs.Readers.{holds_request, is_uncollected}
use Rattle.controller.specs.Address.{allot_of}
use Rattle.controller.specs.Plain.{Allotment}
use Rattle.controller.proofs.AddressLaws.{allot_keeps}
use Rattle.schedule.specs.Bell.{command_word, some_ring}
use Rattle.schedule.proofs.BellLaws.{command_clear}
use Rattle.bring_up.specs.BringUp.{again_of, any_uncollected, moved_on, onward_of, ready, register_of, stage_of, stage_writes, start_of, step_of, set_up}
use Rattle.bring_up.specs.Plain.{BroughtUp}
use Rattle.bring_up.specs.declared.stage.Stage.{Stage}
use Rattle.bring_up.specs.declared.stage.Stage.TheVariants.{Stop, Halting, Reset, Resetting, Run, Starting}
use Rattle.bring_up.proofs.RunLaws.{stays_in_ranges}
use Rattle.ehci.specs.declared.call.Call.TheVariants.{AllocateAddress, BringUpStep, StartBringUp}
use Rattle.ehci.specs.Decides.{allot_decided, allot_reply}
use Rattle.ehci.specs.Replies.{brought_answer, brought_reply, replied}
use Rattle.promises.specs.Runs.{World, core}
use Rattle.promises.specs.Slots.{steps_by}
use Rattle.promises.proofs.effects.RefusalNumbers.{undone}
use Rattle.promises.proofs.effects.Effects.{Effect, Idles, Sides, Switches, besides}
use Rattle.promises.proofs.effects.EffectDoor.{idles_on, leaves, refused_still, still_of, through, carried}

-- a USBCMD write that is no ring
pub command_silent : (v : ℕ) → some_ring (list_of (and_then no_writes 0 (command_word v))) ≡ false
unfolding and_then no_writes
command_silent v = rw (command_clear v)

stage_silent : (stage : Stage) (v frames heads : ℕ) → some_ring (list_of (stage_writes stage v frames heads)) ≡ false
unfolding no_writes and_then set_up
stage_silent Stop v frames heads = command_silent (without_bits v 0x31)
stage_silent Halting v frames heads = refl
stage_silent Reset v frames heads = command_silent (with_bits v 2)
stage_silent Resetting v frames heads = refl
stage_silent Run v frames heads = command_silent (with_bits v 0x31)
stage_silent Starting v frames heads = refl

-- bring-up's own fields
abbrev brought : Ehci → ℕ → ℕ → ℕ → ℕ → Sides
brought s running step waited enabled =
    record {
      running = running;
      step = step;
      waited = waited;
      address = s.address;
      enabled = enabled;
      pending = s.pending;
      masked = s.masked;
    }

-- ---- who runs

neither : (a b : Bool) → (a || b) ≡ false → (a ≡ false) × (b ≡ false)
neither true b e = absurd (false_true (sym e))
neither false b e = (refl, e)

-- no slot has an uncollected request
none_held : (s : Ehci) (k n : ℕ) → any_uncollected k n s ≡ false → (i : ℕ) → k ≤ i → i < k + n → is_uncollected s i ≡ false
unfolding any_uncollected
none_held s k zero e i l h = absurd (omega (arith, l, h))
none_held s k (suc n) e i l h =
    by (dec_eq k i) (λ g g'. none_held s (suc k) n (neither (is_uncollected s k) (any_uncollected (suc k) n s) e).1 i g g')
  where
    by : Dec (k ≡ i) → (suc k ≤ i → i < suc k + n → is_uncollected s i ≡ false) → is_uncollected s i ≡ false
    by (yes q) rest = subst (λ (j : ℕ). is_uncollected s j ≡ false) q (neither (is_uncollected s k) (any_uncollected (suc k) n s) e).0
    by (no ne) rest = rest (omega (arith, l, ne)) (omega (arith, h))

start_idles : (s : Ehci) → any_uncollected 0 32 s ≡ false → Idles (besides s (brought s 0 1 0 0))
unfolding endpoint_at slot_at
start_idles s e = record { stopped = λ h. refl; runs = λ k u. absurd (held k u (ltb k 32) refl) }
  where
    held : (k : ℕ) → is_uncollected s k ≡ true → (b : Bool) → ltb k 32 ≡ b → ⊥
    held k u true q = false_true (sym (none_held s 0 32 e k (omega arith) (ltb-true k 32 q)) ∙ u)
    held k u false q = false_true (sym (ap holds_request (sym (at_none s k (ltb-false k 32 q)))) ∙ u)

-- while bring-up is begun no request is uncollected, so running may change
step_idles : (s : Ehci) (running step waited : ℕ) → (s.step ≡ 0 → ⊥) → ((step ≡ 0 → ⊥) → running ≡ 0) → Idles s
    → Idles (besides s (brought s running step waited s.enabled))
unfolding endpoint_at slot_at
step_idles s running step waited begun still i =
    record { stopped = still; runs = λ k u. absurd (omega (arith, i.stopped begun, i.runs k u)) }

moved_stops : (stage : Stage) → ((moved_on stage).step ≡ 0 → ⊥) → (moved_on stage).running ≡ 0
moved_stops Stop h = refl
moved_stops Halting h = refl
moved_stops Reset h = refl
moved_stops Resetting h = refl
moved_stops Run h = refl
moved_stops Starting h = absurd (h refl)

-- the last step of bring-up leaves nothing to read, and only it leaves the controller running
moved_switches : (stage : Stage) (before : ℕ) → Switches (steps_by (brought_answer (Ok tt) (moved_on stage).read (moved_on stage).wait)) before (moved_on stage).running
moved_switches Stop before = refl
moved_switches Halting before = refl
moved_switches Reset before = refl
moved_switches Resetting before = refl
moved_switches Run before = refl
moved_switches Starting before = refl

-- a step's own checks answer 1
abbrev reason_of : Verdict → Refusal
reason_of passed = InvalidParameter
reason_of (refused r) = r

pub step_refuses : (a b : Bool) (r : Refusal) → first ((a, InvalidParameter) ∷ (b, InvalidParameter) ∷ []) ≡ refused r → InvalidParameter ≡ r
step_refuses true b r e = ap reason_of e
step_refuses false true r e = ap reason_of e
step_refuses false false r e = ap reason_of e

module _ (w : World) where
  abbrev s : Ehci
  s = w.state

  abbrev Started : BroughtUp → Type 0
  Started b =
      (Ranges s → Ranges b.state)
      → Effect w StartBringUp (carried w (brought_reply b))

  pub start_effect : Effect w StartBringUp (core w StartBringUp)
  unfolding start_of brought_reply replied with_bring_up and_then no_writes
  start_effect =
      through Effect w StartBringUp (refused_still w StartBringUp InvalidParameter refl refl)
      (settled_by (first ((not (in_ranges s), InvalidParameter) ∷ (any_uncollected 0 32 s, QueueFull) ∷ [])) _ _ Started
      (λ r e keeps. refused_still w StartBringUp r refl (rw (undone r)))
      (λ e keeps. still_of w StartBringUp _ _ _ (brought s 0 1 0 0) refl refl refl keeps refl
      (λ i. start_idles s (let_pass (any_uncollected 0 32 s) QueueFull passed
      (let_pass (not (in_ranges s)) InvalidParameter (first ((any_uncollected 0 32 s, QueueFull) ∷ [])) e).1).0) refl)
      (λ g. ranges_tell _ (stays_in_ranges s 0 (ranges_make s g)).0))

  abbrev Stepped : ℕ → BroughtUp → Type 0
  Stepped v b =
      (Ranges s → Ranges b.state)
      → Effect w (BringUpStep v) (carried w (brought_reply b))

  again_effect : (v register : ℕ) → (s.step ≡ 0 → ⊥) → Stepped v (again_of s register)
  unfolding again_of brought_reply replied with_bring_up no_writes
  again_effect v register begun = by (ltb (s.waited + 1) s.settings.wait) refl
    where
      by : (b : Bool) → ltb (s.waited + 1) s.settings.wait ≡ b → Stepped v (again_of s register)
      by true e = rw e (λ keeps. still_of w (BringUpStep v) _ _ _ (brought s 0 s.step (s.waited + 1) s.enabled) refl refl refl keeps refl
          (step_idles s 0 s.step (s.waited + 1) begun (λ h. refl)) refl)
      by false e = rw e (λ keeps. still_of w (BringUpStep v) _ _ _ (brought s 0 0 0 s.enabled) refl refl refl keeps refl
          (step_idles s 0 0 0 begun (λ h. refl)) refl)

  onward_effect : (v : ℕ) (stage : Stage) → (s.step ≡ 0 → ⊥) → Stepped v (onward_of s stage v)
  unfolding onward_of brought_reply replied with_bring_up
  onward_effect v stage begun keeps =
      still_of w (BringUpStep v) _ _ _ (brought s (moved_on stage).running (moved_on stage).step 0 s.enabled) refl
      (stage_silent stage v s.settings.frames s.settings.heads) refl keeps refl
      (step_idles s (moved_on stage).running (moved_on stage).step 0 begun (moved_stops stage)) (moved_switches stage s.running)

  stage_effect : (v : ℕ) (stage : Stage) (b : Bool) → (s.step ≡ 0 → ⊥) → Stepped v (cond b (onward_of s stage v) (again_of s (register_of stage)))
  stage_effect v stage true = onward_effect v stage
  stage_effect v stage false = again_effect v (register_of stage)

  pub step_effect : (v : ℕ) → Effect w (BringUpStep v) (core w (BringUpStep v))
  unfolding step_of brought_reply replied no_writes
  step_effect v =
      through Effect w (BringUpStep v) (refused_still w (BringUpStep v) InvalidParameter refl refl)
      (settled_by (first ((not (in_ranges s), InvalidParameter) ∷ (eqb s.step 0, InvalidParameter) ∷ [])) _ _ (Stepped v)
      (λ r e keeps. subst (λ (x : Refusal). Effect w (BringUpStep v) (leaves w (BringUpStep v) s (Err x) no_writes)) (step_refuses (not (in_ranges s)) (eqb s.step 0) r e)
      (refused_still w (BringUpStep v) InvalidParameter refl refl))
      (λ e. stage_effect v (stage_of s.step) (ready (stage_of s.step) v)
      (eqb-false s.step 0 (let_pass (eqb s.step 0) InvalidParameter passed
      (let_pass (not (in_ranges s)) InvalidParameter (first ((eqb s.step 0, InvalidParameter) ∷ [])) e).1).0))
      (λ g. ranges_tell _ (stays_in_ranges s v (ranges_make s g)).1))

  abbrev Allotted : Allotment → Type 0
  Allotted a =
      (Ranges s → Ranges a.state)
      → Effect w AllocateAddress (carried w (allot_reply a))

  pub allot_effect : Effect w AllocateAddress (core w AllocateAddress)
  unfolding allot_of allot_decided replied with_next_address no_writes
  allot_effect =
      through Effect w AllocateAddress (refused_still w AllocateAddress InvalidParameter refl refl)
      (settled_by (first ((not (in_ranges s), InvalidParameter) ∷ (ltb 127 s.address, SlotLimitReached) ∷ [])) _ _ Allotted
      (λ r e keeps. refused_still w AllocateAddress r refl refl)
      (λ e keeps. still_of w AllocateAddress _ _ _
      (record {
        running = s.running;
        step = s.step;
        waited = s.waited;
        address = s.address + 1;
        enabled = s.enabled;
        pending = s.pending;
        masked = s.masked;
      }) refl refl refl keeps refl (idles_on s _ refl refl) refl)
      (λ g. ranges_tell _ (allot_keeps s (ranges_make s g))))
