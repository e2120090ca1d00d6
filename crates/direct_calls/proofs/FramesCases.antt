-- The returns of a call that is lent core, slots, heads and frames.
use Rattle.std.specs.Prelude.{◌≡◌, ℕ, Bool, true, false, not, List, length}
use mathlib.Core.Path.{sym, ◌∙◌}
use borrow.Author.Tests.{not-false, not-true}
use Rattle.common.proofs.TestLaws.{false_true}
use Rattle.opening.specs.Opening.{rows_are_fit}
use Rattle.words.specs.declared.cores.Core.{Core}
use Rattle.words.specs.declared.cores.Rest.{Rest}
use Rattle.words.specs.Good.{Tidy}
use Rattle.direct_calls.specs.Shapes.{FramesCall, takes_frames}

module _ {R S : Type 0} (c : Core) (ws ws' heads heads' frames frames' : List ℕ) (r refusal : R) (rest : Rest) (seen : S) (decides : ℕ → ℕ → S) (g : Bool) (eg : g ≡ takes_frames c ws (length heads) (length frames)) where
  pub frames_refuses : not g ≡ true → r ≡ refusal → ws' ≡ ws → heads' ≡ heads → frames' ≡ frames
      → FramesCall c ws ws' heads heads' frames frames' r refusal rest seen decides
  frames_refuses t e l l' l'' =
      let no : takes_frames c ws (length heads) (length frames) ≡ false = sym eg ∙ not-true g t in
      record {
        refused = λ _. (e, l, l', l'');
        decided = λ h. absurd (false_true (sym no ∙ h));
        tidy = λ h. absurd (false_true (sym no ∙ h));
      }

  pub frames_decides : not g ≡ false
      → ((pool setups : ℕ) → rows_are_fit c.settings pool (length heads) (length frames) setups ≡ true → seen ≡ decides pool setups)
      → Tidy c.settings rest ws' → FramesCall c ws ws' heads heads' frames frames' r refusal rest seen decides
  frames_decides t e k =
      let yes : takes_frames c ws (length heads) (length frames) ≡ true = sym eg ∙ not-false g t in
      record { refused = λ h. absurd (false_true (sym h ∙ yes)); decided = λ _. e; tidy = λ _. k }
