-- The returns of opening in words.
use Rattle.std.specs.Prelude.{◌≡◌, ℕ, ◌*◌, Bool, true, false, not, List, length, replicate}
use mathlib.Core.Path.{sym, ◌∙◌}
use borrow.Author.Tests.{eqb-true, not-false, not-true}
use Rattle.common.specs.declared.answer.Refusal.TheVariants.{InvalidParameter}
use Rattle.settings.specs.declared.settings.Settings.{Settings}
use Rattle.settings.specs.Settings.{settings_good}
use Rattle.opening.specs.declared.open.Opening.{Opening}
use Rattle.opening.specs.Opening.{opened_heads, rows_are_fit}
use Rattle.opening.specs.Words.{accepted_words, decide_words, decided_words, refused_words, slots_fit}
use Rattle.opening.proofs.OpenCases.{fit_lengths}

module _ (s : Settings) (pool : ℕ) (w h f u : List ℕ) (b : Bool) (eb : b ≡ slots_fit s (length w)) where
  pub words_short : not b ≡ true → (o : Opening) → o ≡ refused_words InvalidParameter → decided_words o w h f u ≡ decide_words s pool w h f u
  unfolding decide_words
  words_short t o e = rw (e, sym eb ∙ not-true b t)

  slots_length : not b ≡ false → length w ≡ 6 * s.endpoints
  unfolding slots_fit
  slots_length t = eqb-true (length w) (6 * s.endpoints) (sym eb ∙ not-false b t)

  module _ (g : Bool) (eg : g ≡ settings_good s) where
    pub words_bad : not b ≡ false → not g ≡ true → (o : Opening) → o ≡ refused_words InvalidParameter
        → decided_words o w h f u ≡ decide_words s pool w h f u
    unfolding decide_words
    words_bad t t' o e = rw (e, sym eb ∙ not-false b t, sym eg ∙ not-true g t')

    module _ (fit : Bool) (ef : fit ≡ rows_are_fit s pool (length h) (length f) (length u)) where
      pub words_rows : not b ≡ false → not g ≡ false → not fit ≡ true → (o : Opening) → o ≡ refused_words InvalidParameter
          → decided_words o w h f u ≡ decide_words s pool w h f u
      unfolding decide_words
      words_rows t t' t'' o e = rw (e, sym eb ∙ not-false b t, sym eg ∙ not-false g t', sym ef ∙ not-true fit t'')

      pub words_done : not b ≡ false → not g ≡ false → not fit ≡ false → (w' h' f' u' : List ℕ) (o : Opening)
          → w' ≡ replicate (length w) 0 → h' ≡ opened_heads s.heads (length h) → f' ≡ replicate (length f) 1 → u' ≡ replicate (length u) 0
          → o ≡ accepted_words s → decided_words o w' h' f' u' ≡ decide_words s pool w h f u
      unfolding decide_words
      words_done t t' t'' w' h' f' u' o ew eh ef' eu eo =
          let l = fit_lengths s pool h f u g eg fit ef t'' in
          rw (ew, eh, ef', eu, eo, sym eb ∙ not-false b t, sym eg ∙ not-false g t', sym ef ∙ not-false fit t'', slots_length t, l.0, l.1, l.2)
