-- The two returns of a call that is lent the core alone; and what a step asks, of a core in its ranges.
use Rattle.std.specs.Prelude.{◌≡◌, ℕ, ◌<◌, Bool, true, false, not, ltb, leb, List}
use mathlib.Core.Path.{sym, ◌∙◌}
use native.Mathlib.Omega.{arith}
use borrow.Author.Tests.{ltb-true, not-false, not-true}
use Rattle.common.proofs.TestLaws.{both_tells, false_true}
use Rattle.settings.specs.Settings.{settings_good}
use Rattle.settings.proofs.SettingsLaws.{good_tells}
use Rattle.state.specs.Plain.{Ehci}
use Rattle.state.specs.Ranges.{in_ranges, machine_good}
use Rattle.words.specs.declared.cores.Core.{Core}
use Rattle.words.specs.declared.cores.Rest.{Rest}
use Rattle.words.specs.View.{state_of, view}
use Rattle.word_ranges.specs.Judge.{bare_state, core_good, scalars_good}
use Rattle.word_ranges.proofs.CoreLaws.{ranges_core}
use Rattle.direct_calls.specs.Shapes.{CoreCall}

module _ {R S : Type 0} (c : Core) (r refusal : R) (rest : Rest) (seen : List ℕ → S) (decides : Ehci → S) (g : Bool) (eg : g ≡ core_good c.settings c.rest) where
  pub core_refuses : not g ≡ true → r ≡ refusal → CoreCall c r refusal rest seen decides
  core_refuses t e =
      let no : core_good c.settings c.rest ≡ false = sym eg ∙ not-true g t in
      record {
        refused = λ _. e;
        decided = λ ws h. absurd (false_true (sym no ∙ ranges_core c.settings c.rest ws h));
        free_stays = λ h. absurd (false_true (sym no ∙ h));
      }

  pub core_decides : not g ≡ false → ((ws : List ℕ) → in_ranges (view c ws) ≡ true → seen ws ≡ decides (view c ws))
      → rest.free ≡ c.rest.free → CoreCall c r refusal rest seen decides
  core_decides t e f =
      let yes : core_good c.settings c.rest ≡ true = sym eg ∙ not-false g t in
      record { refused = λ h. absurd (false_true (sym h ∙ yes)); decided = e; free_stays = λ _. f }

-- the wait's reads and the addresses of frames and heads
core_small : (c : Core) → core_good c.settings c.rest ≡ true
    → (c.rest.waited < 65536) × ((c.settings.frames < 4294967296) × (c.settings.heads < 4294967296))
unfolding core_good scalars_good machine_good state_of
core_small c e =
    let s = c.settings in
    let r = c.rest in
    let settings = both_tells (settings_good s) _ e in
    let g = good_tells s settings.0 in
    let machine = both_tells (machine_good (bare_state s r)) _ settings.1 in
    let running = both_tells (leb r.running 1) _ machine.0 in
    let step = both_tells (leb r.step 6) _ running.1 in
    let waited = both_tells (ltb r.waited s.wait) _ step.1 in (
      omega (arith, g.wait_most, ltb-true r.waited s.wait waited.0),
      (omega (arith, g.frames_end), omega (arith, g.heads_end)),
    )

module _ (c : Core) (g : Bool) (eg : g ≡ core_good c.settings c.rest) (t : not g ≡ false) where
  pub waited_fits : c.rest.waited < 65536
  waited_fits = (core_small c (sym eg ∙ not-false g t)).0

  pub frames_fit : c.settings.frames < 4294967296
  frames_fit = (core_small c (sym eg ∙ not-false g t)).1.0

  pub heads_fit : c.settings.heads < 4294967296
  heads_fit = (core_small c (sym eg ∙ not-false g t)).1.1
