-- The returns of a call that is lent core and slots; and that what it takes is good.
use Rattle.std.specs.Prelude.{◌≡◌, ℕ, Bool, true, false, not, List}
use mathlib.Core.Path.{sym, ◌∙◌}
use borrow.Author.Tests.{not-false, not-true}
use Rattle.common.proofs.TestLaws.{false_true}
use Rattle.state.specs.Plain.{Ehci}
use Rattle.words.specs.declared.cores.Core.{Core}
use Rattle.words.specs.declared.cores.Rest.{Rest}
use Rattle.words.specs.Good.{Good, Tidy}
use Rattle.words.specs.View.{view}
use Rattle.words.proofs.TidyLaws.{tidy_rest}
use Rattle.word_ranges.specs.Judge.{words_good}
use Rattle.word_ranges.proofs.JudgeLaws.{judged}
use Rattle.direct_calls.specs.Shapes.{SlotsCall}

pub slots_good_lem : (c : Core) (ws : List ℕ) (g : Bool) → g ≡ words_good c.settings c.rest ws → not g ≡ false
    → Good c.settings c.rest ws
slots_good_lem c ws g eg t = judged c.settings c.rest ws (sym eg ∙ not-false g t)

module _ {R S : Type 0} (c : Core) (ws ws' : List ℕ) (r refusal : R) (rest : Rest) (seen : S) (decides : Ehci → S) (g : Bool) (eg : g ≡ words_good c.settings c.rest ws) where
  pub slots_refuses : not g ≡ true → r ≡ refusal → ws' ≡ ws → SlotsCall c ws ws' r refusal rest seen decides
  slots_refuses t e l =
      let no : words_good c.settings c.rest ws ≡ false = sym eg ∙ not-true g t in
      record {
        refused = λ _. (e, l);
        decided = λ h. absurd (false_true (sym no ∙ h));
        tidy = λ h. absurd (false_true (sym no ∙ h));
      }

  pub slots_decides : not g ≡ false → seen ≡ decides (view c ws) → Tidy c.settings rest ws'
      → SlotsCall c ws ws' r refusal rest seen decides
  slots_decides t e k =
      let yes : words_good c.settings c.rest ws ≡ true = sym eg ∙ not-false g t in
      record { refused = λ h. absurd (false_true (sym h ∙ yes)); decided = λ _. e; tidy = λ _. k }

-- the slots are only read
pub slots_kept : {R S : Type 0} (c : Core) (ws : List ℕ) (r refusal : R) (rest : Rest) (seen : S) (decides : Ehci → S) (g : Bool)
    → g ≡ words_good c.settings c.rest ws → not g ≡ false → seen ≡ decides (view c ws) → rest.free ≡ c.rest.free
    → SlotsCall c ws ws r refusal rest seen decides
slots_kept c ws r refusal rest seen decides g eg t e f =
    slots_decides c ws ws r refusal rest seen decides g eg t e
    (tidy_rest c.settings c.rest rest ws f (slots_good_lem c ws g eg t).tidy)
