-- The returns of the bring-up calls, and the loop over the slots.
use Rattle.std.specs.Prelude.{◌≡◌, ℕ, suc, ◌+◌, ◌-◌, ◌<◌, ◌≤◌, Bool, true, false, not, ◌||◌, eqb, get_or, None, Ok, Some}
use mathlib.Core.Path.{refl, sym, ◌∙◌}
use native.Mathlib.Decide.{ℕ_discrete as dec_eq}
use native.Mathlib.Numerals.{add-one}
use native.Mathlib.Omega.{arith}
use borrow.Author.Tests.{eq-eqb, ne_eqb, lt-ltb, le-ltb, not-false, not-true}
use Rattle.register.specs.Bits.{with_bits, without_bits, any_of}
use Rattle.register.specs.Writes.{no_writes, and_then}
use Rattle.register.specs.declared.writes.Writes.{Writes}
use Rattle.common.proofs.TestLaws.{either_assoc}
use Rattle.slot.specs.declared.slot.Slot.{Slot}
use Rattle.state.specs.Plain.{Ehci}
use Rattle.state.specs.Ranges.{in_ranges}
use Rattle.state.specs.Slots.{slot_at}
use Rattle.state.specs.State.{with_bring_up}
use Rattle.common.specs.declared.answer.Refusal.TheVariants.{InvalidParameter, QueueFull, Timeout}
use Rattle.pipe.specs.Endpoints.{decoded, endpoint_at}
use Rattle.controller.specs.Readers.{holds_request, is_uncollected}
use Rattle.bring_up.specs.declared.stage.Stage.{Stage}
use Rattle.bring_up.specs.declared.stage.Stage.TheVariants.{Stop, Halting, Reset, Resetting, Run, Starting}
use Rattle.bring_up.specs.declared.stage.Moved.{Moved}
use Rattle.bring_up.specs.Plain.{BroughtUp}
use Rattle.bring_up.specs.BringUp.{any_uncollected, held_in, stage_of, register_of, ready, command, set_up, stage_writes, on_to, moved_on, refused_bring_up, start_of, onward_of, again_of, step_of}

-- ---- the slots

decoded_holds : (e : Slot) (b c : Bool) → (e.phase ≡ 1 → ⊥) → eqb e.phase 2 ≡ b → eqb e.phase 3 ≡ c → held_in e.phase ≡ holds_request (decoded e)
unfolding decoded
decoded_holds e true c n q r = rw (ne_eqb e.phase 1 n, q)
decoded_holds e false true n q r = rw (ne_eqb e.phase 1 n, q, r)
decoded_holds e false false n q r = rw (ne_eqb e.phase 1 n, q, r)

idle_holds : (e : Slot) → e.phase ≡ 1 → held_in e.phase ≡ holds_request (decoded e)
unfolding decoded
idle_holds e q = rw q

pub held_is : (s : Ehci) (k : ℕ) → k < 32 → held_in (get_or s.phases k 0) ≡ is_uncollected s k
unfolding endpoint_at slot_at
held_is s k h = rw (lt-ltb k 32 h) (by (dec_eq (slot_at s k).phase 1))
  where
    by : Dec ((slot_at s k).phase ≡ 1) → held_in (slot_at s k).phase ≡ holds_request (decoded (slot_at s k))
    by (yes q) = idle_holds (slot_at s k) q
    by (no n) = decoded_holds (slot_at s k) _ _ n refl refl

pub either_false : (a : Bool) → (a || false) ≡ a
either_false true = refl
either_false false = refl

pub busy_turn : (s : Ehci) (k : ℕ) (b : Bool) → k < 32
    → (b || held_in (get_or s.phases k 0) || any_uncollected (k + 1) (32 - (k + 1)) s) ≡ (b || any_uncollected k (32 - k) s)
unfolding any_uncollected
busy_turn s k b h = rw (held_is s k h, add-one k, more) (either_assoc b _ _)
  where
    more : 32 - k ≡ suc (32 - suc k)
    more = omega arith

-- ---- the stages

pub stage_stop : (n : ℕ) → n ≡ 1 → Stop ≡ stage_of n
stage_stop n e = rw e

pub stage_halting : (n : ℕ) → n ≡ 2 → Halting ≡ stage_of n
stage_halting n e = rw e

pub stage_reset : (n : ℕ) → n ≡ 3 → Reset ≡ stage_of n
stage_reset n e = rw e

pub stage_resetting : (n : ℕ) → n ≡ 4 → Resetting ≡ stage_of n
stage_resetting n e = rw e

pub stage_run : (n : ℕ) → n ≡ 5 → Run ≡ stage_of n
stage_run n e = rw e

pub stage_starting : (n : ℕ) → (n ≡ 1 → ⊥) → (n ≡ 2 → ⊥) → (n ≡ 3 → ⊥) → (n ≡ 4 → ⊥) → (n ≡ 5 → ⊥) → Starting ≡ stage_of n
stage_starting n a b c d e = rw (ne_eqb n 1 a, ne_eqb n 2 b, ne_eqb n 3 c, ne_eqb n 4 d, ne_eqb n 5 e)

module _ (stage : Stage) (v : ℕ) (t : Bool) where
  pub ready_halting : stage ≡ Halting → t ≡ any_of v 4096 → t ≡ ready stage v
  ready_halting e et = et ∙ rw e

  pub ready_resetting : stage ≡ Resetting → t ≡ any_of v 2 → not t ≡ ready stage v
  ready_resetting e et = rw (et, e)

  pub ready_starting : stage ≡ Starting → t ≡ any_of v 4096 → not t ≡ ready stage v
  ready_starting e et = rw (et, e)

module _ (stage : Stage) (v f h n : ℕ) (w : Writes) where
  pub writes_stop : stage ≡ Stop → n ≡ without_bits v 49 → w ≡ command n → w ≡ stage_writes stage v f h
  writes_stop e en ew = ew ∙ rw (en, e)

  pub writes_reset : stage ≡ Reset → n ≡ with_bits v 2 → w ≡ command n → w ≡ stage_writes stage v f h
  writes_reset e en ew = ew ∙ rw (en, e)

  pub writes_resetting : stage ≡ Resetting → w ≡ set_up f h → w ≡ stage_writes stage v f h
  writes_resetting e ew = ew ∙ rw e

  pub writes_run : stage ≡ Run → n ≡ with_bits v 49 → w ≡ command n → w ≡ stage_writes stage v f h
  writes_run e en ew = ew ∙ rw (en, e)

module _ (stage : Stage) (m : Moved) where
  pub on_stop : stage ≡ Stop → m ≡ on_to 2 4 → m ≡ moved_on stage
  on_stop e em = em ∙ rw e

  pub on_halting : stage ≡ Halting → m ≡ on_to 3 0 → m ≡ moved_on stage
  on_halting e em = em ∙ rw e

  pub on_reset : stage ≡ Reset → m ≡ on_to 4 0 → m ≡ moved_on stage
  on_reset e em = em ∙ rw e

  pub on_resetting : stage ≡ Resetting → m ≡ on_to 5 0 → m ≡ moved_on stage
  on_resetting e em = em ∙ rw e

  pub on_run : stage ≡ Run → m ≡ on_to 6 4 → m ≡ moved_on stage
  on_run e em = em ∙ rw e

pub on_starting : (stage : Stage) → stage ≡ Starting → record { running = 1; step = 0; read = None; wait = 100 } ≡ moved_on stage
on_starting stage e = rw e

pub set_up_is : (f h : ℕ) (w₀ w₁ w₂ w₃ w₄ w₅ : Writes) → w₀ ≡ no_writes → w₁ ≡ and_then w₀ 16 0 → w₂ ≡ and_then w₁ 20 f
    → w₃ ≡ and_then w₂ 24 h → w₄ ≡ and_then w₃ 64 1 → w₅ ≡ and_then w₄ 4 63 → w₅ ≡ set_up f h
unfolding set_up
set_up_is f h w₀ w₁ w₂ w₃ w₄ w₅ e₀ e₁ e₂ e₃ e₄ e₅ = rw (e₅, e₄, e₃, e₂, e₁, e₀)

-- ---- the calls

module _ (s : Ehci) (reg : ℕ) where
  pub again_more : (w : Writes) → s.waited + 1 < s.settings.wait → w ≡ no_writes
      → ◌≡◌ {A = BroughtUp}
      (record {
        answer = Ok tt;
        state = with_bring_up s 0 s.step (s.waited + 1) s.enabled;
        writes = w;
        read = Some reg;
        wait = 0;
      })
      (again_of s reg)
  unfolding again_of
  again_more w h ew = rw (ew, lt-ltb (s.waited + 1) s.settings.wait h)

  pub again_late : (r : BroughtUp) → s.settings.wait ≤ s.waited + 1
      → r ≡ refused_bring_up (with_bring_up s 0 0 0 s.enabled) Timeout → r ≡ again_of s reg
  unfolding again_of
  again_late r h er = er ∙ rw (le-ltb (s.waited + 1) s.settings.wait h)

module _ (s : Ehci) (b : Bool) (eb : b ≡ in_ranges s) where
  pub start_bad : (r : BroughtUp) → not b ≡ true → r ≡ refused_bring_up s InvalidParameter → r ≡ start_of s
  unfolding start_of
  start_bad r t er = er ∙ rw (sym eb ∙ not-true b t)

  pub start_busy : (u : Bool) (r : BroughtUp) → not b ≡ false → u ≡ any_uncollected 0 32 s → u ≡ true
      → r ≡ refused_bring_up s QueueFull → r ≡ start_of s
  unfolding start_of
  start_busy u r t eu h er = er ∙ rw (sym eb ∙ not-false b t, sym eu ∙ h)

  pub start_done : (u : Bool) (w w' : Writes) → not b ≡ false → u ≡ any_uncollected 0 32 s → u ≡ false → w ≡ no_writes → w' ≡ and_then w 8 0
      → ◌≡◌ {A = BroughtUp}
      (record { answer = Ok tt; state = with_bring_up s 0 1 0 0; writes = w'; read = Some 0; wait = 0 }) (start_of s)
  unfolding start_of
  start_done u w w' t eu h ew e = rw (e, ew, sym eb ∙ not-false b t, sym eu ∙ h)

  pub step_bad : (v : ℕ) (r : BroughtUp) → not b ≡ true → r ≡ refused_bring_up s InvalidParameter → r ≡ step_of s v
  unfolding step_of
  step_bad v r t er = er ∙ rw (sym eb ∙ not-true b t)

  pub step_none : (v : ℕ) (r : BroughtUp) → not b ≡ false → s.step ≡ 0 → r ≡ refused_bring_up s InvalidParameter → r ≡ step_of s v
  unfolding step_of
  step_none v r t h er = er ∙ rw (sym eb ∙ not-false b t, eq-eqb s.step 0 h)

  module _ (v : ℕ) (stage : Stage) (g : Bool) (t : not b ≡ false) (h : s.step ≡ 0 → ⊥) (es : stage ≡ stage_of s.step) (eg : g ≡ ready stage v) where
    pub step_onward : (w : Writes) (m : Moved) → g ≡ true → w ≡ stage_writes stage v s.settings.frames s.settings.heads → m ≡ moved_on stage
        → ◌≡◌ {A = BroughtUp}
        (record {
          answer = Ok tt;
          state = with_bring_up s m.running m.step 0 s.enabled;
          writes = w;
          read = m.read;
          wait = m.wait;
        })
        (step_of s v)
    unfolding step_of onward_of
    step_onward w m p ew em = rw (em, ew, sym eb ∙ not-false b t, ne_eqb s.step 0 h, sym es, sym eg ∙ p)

    pub step_again : (reg : ℕ) (r : BroughtUp) → g ≡ false → reg ≡ register_of stage → r ≡ again_of s reg → r ≡ step_of s v
    unfolding step_of
    step_again reg r p en er = er ∙ rw (en, sym eb ∙ not-false b t, ne_eqb s.step 0 h, sym es, sym eg ∙ p)
