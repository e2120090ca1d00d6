-- The returns of a call that is lent core, slots and heads.
use Rattle.std.specs.Prelude.{◌≡◌, ℕ, Bool, true, false, not, List, length}
use mathlib.Core.Path.{sym, ◌∙◌}
use borrow.Author.Tests.{not-false, not-true}
use Rattle.common.proofs.TestLaws.{false_true}
use Rattle.opening.specs.Opening.{rows_are_fit}
use Rattle.words.specs.declared.cores.Core.{Core}
use Rattle.words.specs.declared.cores.Rest.{Rest}
use Rattle.words.specs.Good.{Tidy}
use Rattle.words.proofs.TidyLaws.{tidy_rest}
use Rattle.direct_calls.specs.Shapes.{HeadsCall, takes_heads}
use Rattle.direct_calls.proofs.TakesCases.{heads_good}

module _ {R S : Type 0} (c : Core) (ws ws' heads heads' : List ℕ) (r refusal : R) (rest : Rest) (seen : S) (decides : ℕ → ℕ → ℕ → S) (g : Bool) (eg : g ≡ takes_heads c ws (length heads)) where
  pub heads_refuses : not g ≡ true → r ≡ refusal → ws' ≡ ws → heads' ≡ heads
      → HeadsCall c ws ws' heads heads' r refusal rest seen decides
  heads_refuses t e l l' =
      let no : takes_heads c ws (length heads) ≡ false = sym eg ∙ not-true g t in
      record {
        refused = λ _. (e, l, l');
        decided = λ h. absurd (false_true (sym no ∙ h));
        tidy = λ h. absurd (false_true (sym no ∙ h));
      }

  pub heads_decides : not g ≡ false
      → ((pool frames setups : ℕ) → rows_are_fit c.settings pool (length heads) frames setups ≡ true → seen ≡ decides pool frames setups)
      → Tidy c.settings rest ws' → HeadsCall c ws ws' heads heads' r refusal rest seen decides
  heads_decides t e k =
      let yes : takes_heads c ws (length heads) ≡ true = sym eg ∙ not-false g t in
      record { refused = λ h. absurd (false_true (sym h ∙ yes)); decided = λ _. e; tidy = λ _. k }

-- the slots are only read
pub heads_kept : {R S : Type 0} (c : Core) (ws heads heads' : List ℕ) (r refusal : R) (rest : Rest) (seen : S) (decides : ℕ → ℕ → ℕ → S) (g : Bool)
    → g ≡ takes_heads c ws (length heads) → not g ≡ false
    → ((pool frames setups : ℕ) → rows_are_fit c.settings pool (length heads) frames setups ≡ true → seen ≡ decides pool frames setups)
    → rest.free ≡ c.rest.free → HeadsCall c ws ws heads heads' r refusal rest seen decides
heads_kept c ws heads heads' r refusal rest seen decides g eg t e f =
    heads_decides c ws ws heads heads' r refusal rest seen decides g eg t e
    (tidy_rest c.settings c.rest rest ws f (heads_good c ws (length heads) g eg t).tidy)
