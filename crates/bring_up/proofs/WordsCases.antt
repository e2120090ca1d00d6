-- The returns of the bring-up calls over words: each is the case of the calls' definitions at the state that the words stand for.
use Rattle.std.specs.Prelude.{◌≡◌, ℕ, ◌+◌, ◌<◌, ◌≤◌, Bool, true, false, List, Ok, Some}
use mathlib.Core.Path.{refl, sym, ap, ◌∙◌}
use Rattle.register.specs.Writes.{no_writes, and_then}
use Rattle.register.specs.declared.writes.Writes.{Writes}
use Rattle.common.specs.declared.answer.Refusal.{Refusal}
use Rattle.common.specs.declared.answer.Refusal.TheVariants.{InvalidParameter, QueueFull, Timeout}
use Rattle.state.specs.Ranges.{in_ranges}
use Rattle.state.specs.State.{with_bring_up}
use Rattle.words.specs.declared.cores.Core.{Core}
use Rattle.words.specs.declared.cores.Rest.{Rest}
use Rattle.words.specs.Good.{Good}
use Rattle.words.specs.Rest.{rest_with_bring_up}
use Rattle.words.specs.View.{state_of, view}
use Rattle.bring_up.specs.declared.stage.Stage.{Stage}
use Rattle.bring_up.specs.declared.stage.Moved.{Moved}
use Rattle.bring_up.specs.Plain.{BroughtUp}
use Rattle.bring_up.specs.declared.answers.BroughtUp.{BroughtUp as BroughtUpWords}
use Rattle.bring_up.specs.BringUp.{again_of, moved_on, ready, register_of, stage_of, stage_writes, start_of, step_of}
use Rattle.bring_up.specs.Words.{any_held, brought_view, refused_words}
use Rattle.bring_up.proofs.BusyView.{held_view}
use Rattle.bring_up.proofs.Cases.{again_late, again_more, start_busy, start_done, step_again, step_none, step_onward}

-- a refusal leaves the free places that it is given
pub refused_free : (r : BroughtUpWords) (q : Rest) (x : Refusal) → r ≡ refused_words q x → r.rest.free ≡ q.free
refused_free r q x e = ap (λ (b : BroughtUpWords). b.rest.free) e

-- ---- a reading that is not ready

module _ (c : Core) (ws : List ℕ) (reg : ℕ) where
  pub waits_more : (w : Writes) → c.rest.waited + 1 < c.settings.wait → w ≡ no_writes
      → ◌≡◌ {A = BroughtUp}
      (record {
        answer = Ok tt;
        state = state_of c.settings (rest_with_bring_up c.rest 0 c.rest.step (c.rest.waited + 1) c.rest.enabled) ws;
        writes = w;
        read = Some reg;
        wait = 0;
      })
      (again_of (view c ws) reg)
  unfolding state_of with_bring_up
  waits_more w h ew = again_more (view c ws) reg w h ew

  pub waits_late : (r : BroughtUpWords) → c.settings.wait ≤ c.rest.waited + 1
      → r ≡ refused_words (rest_with_bring_up c.rest 0 0 0 c.rest.enabled) Timeout
      → brought_view c.settings r ws ≡ again_of (view c ws) reg
  unfolding state_of with_bring_up
  waits_late r h er =
      again_late (view c ws) reg (brought_view c.settings r ws) h (ap (λ (b : BroughtUpWords). brought_view c.settings b ws) er)

-- ---- start

module _ (c : Core) (ws : List ℕ) (good : Good c.settings c.rest ws) (u : Bool) (eu : u ≡ any_held 0 c.settings.endpoints ws) where
  pub starts_busy : (r : BroughtUpWords) → u ≡ true → r ≡ refused_words c.rest QueueFull
      → brought_view c.settings r ws ≡ start_of (view c ws)
  starts_busy r t er =
      start_busy (view c ws) true (sym good.ranges) u (brought_view c.settings r ws) refl
      (eu ∙ held_view c.settings c.rest ws good) t (ap (λ (b : BroughtUpWords). brought_view c.settings b ws) er)

  pub starts_done : (w w' : Writes) → u ≡ false → w ≡ no_writes → w' ≡ and_then w 8 0
      → ◌≡◌ {A = BroughtUp}
      (record {
        answer = Ok tt;
        state = state_of c.settings (rest_with_bring_up c.rest 0 1 0 0) ws;
        writes = w';
        read = Some 0;
        wait = 0;
      })
      (start_of (view c ws))
  unfolding state_of with_bring_up
  starts_done w w' t ew e =
      start_done (view c ws) true (sym good.ranges) u w w' refl (eu ∙ held_view c.settings c.rest ws good) t ew e

-- ---- step

module _ (c : Core) (ws : List ℕ) (good : in_ranges (view c ws) ≡ true) (v : ℕ) where
  pub steps_none : (r : BroughtUpWords) → c.rest.step ≡ 0 → r ≡ refused_words c.rest InvalidParameter
      → brought_view c.settings r ws ≡ step_of (view c ws) v
  unfolding state_of
  steps_none r z er =
      step_none (view c ws) true (sym good) v (brought_view c.settings r ws) refl z (ap (λ (b : BroughtUpWords). brought_view c.settings b ws) er)

  module _ (stage : Stage) (g : Bool) (h : c.rest.step ≡ 0 → ⊥) (es : stage ≡ stage_of c.rest.step) (eg : g ≡ ready stage v) where
    pub steps_onward : (w : Writes) (m : Moved) → g ≡ true
        → w ≡ stage_writes stage v c.settings.frames c.settings.heads → m ≡ moved_on stage
        → ◌≡◌ {A = BroughtUp}
        (record {
          answer = Ok tt;
          state = state_of c.settings (rest_with_bring_up c.rest m.running m.step 0 c.rest.enabled) ws;
          writes = w;
          read = m.read;
          wait = m.wait;
        })
        (step_of (view c ws) v)
    unfolding state_of with_bring_up
    steps_onward w m t ew em = step_onward (view c ws) true (sym good) v stage g refl h es eg w m t ew em

    pub steps_again : (reg : ℕ) (r : BroughtUpWords) → g ≡ false → reg ≡ register_of stage
        → ((vs : List ℕ) → brought_view c.settings r vs ≡ again_of (view c vs) reg)
        → brought_view c.settings r ws ≡ step_of (view c ws) v
    unfolding state_of
    steps_again reg r t en er =
        step_again (view c ws) true (sym good) v stage g refl h es eg reg (brought_view c.settings r ws) t en (er ws)
