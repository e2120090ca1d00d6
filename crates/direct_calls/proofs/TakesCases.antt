-- The returns of the judges of rows besides the slots; and what they tell.
use Rattle.std.specs.Prelude.{◌≡◌, ℕ, ◌+◌, ◌*◌, Bool, true, false, not, eqb, ◌≢◌, List}
use mathlib.Core.Path.{sym, ◌∙◌}
use borrow.Author.Tests.{eq-eqb, eqb-true, ne_eqb, not-false}
use Rattle.common.proofs.TestLaws.{both_tells}
use Rattle.words.specs.declared.cores.Core.{Core}
use Rattle.words.specs.Good.{Good}
use Rattle.word_ranges.specs.Judge.{words_good}
use Rattle.word_ranges.proofs.JudgeLaws.{judged}
use Rattle.direct_calls.specs.Shapes.{takes_frames, takes_heads}

module _ (c : Core) (ws : List ℕ) (heads : ℕ) where
  pub heads_else : heads ≢ 17 * (c.settings.endpoints + 1) → eqb heads (17 * (c.settings.endpoints + 1)) ≡ takes_heads c ws heads
  unfolding takes_heads
  heads_else ne = rw (ne_eqb heads (17 * (c.settings.endpoints + 1)) ne)

  pub heads_asked : (g : Bool) → heads ≡ 17 * (c.settings.endpoints + 1) → g ≡ words_good c.settings c.rest ws
      → g ≡ takes_heads c ws heads
  unfolding takes_heads
  heads_asked g e eg = eg ∙ rw (eq-eqb heads (17 * (c.settings.endpoints + 1)) e)

  heads_tell : takes_heads c ws heads ≡ true → Good c.settings c.rest ws × (heads ≡ 17 * (c.settings.endpoints + 1))
  unfolding takes_heads
  heads_tell e =
      let p = both_tells (eqb heads (17 * (c.settings.endpoints + 1))) _ e in
      (judged c.settings c.rest ws p.1, eqb-true heads (17 * (c.settings.endpoints + 1)) p.0)

  module _ (g : Bool) (eg : g ≡ takes_heads c ws heads) (t : not g ≡ false) where
    pub heads_good : Good c.settings c.rest ws
    heads_good = (heads_tell (sym eg ∙ not-false g t)).0

    pub heads_length_lem : heads ≡ 17 * (c.settings.endpoints + 1)
    heads_length_lem = (heads_tell (sym eg ∙ not-false g t)).1

  module _ (frames : ℕ) where
    pub frames_else : frames ≢ 1024 → eqb frames 1024 ≡ takes_frames c ws heads frames
    unfolding takes_frames
    frames_else ne = rw (ne_eqb frames 1024 ne)

    pub frames_asked : (g : Bool) → frames ≡ 1024 → g ≡ takes_heads c ws heads → g ≡ takes_frames c ws heads frames
    unfolding takes_frames
    frames_asked g e eg = eg ∙ rw (eq-eqb frames 1024 e)

    frames_tell : takes_frames c ws heads frames ≡ true
        → Good c.settings c.rest ws × ((heads ≡ 17 * (c.settings.endpoints + 1)) × (frames ≡ 1024))
    unfolding takes_frames
    frames_tell e =
        let p = both_tells (eqb frames 1024) _ e in
        let h = heads_tell p.1 in
        (h.0, (h.1, eqb-true frames 1024 p.0))

    pub frames_taken : (g : Bool) → g ≡ takes_frames c ws heads frames → not g ≡ false
        → Good c.settings c.rest ws × ((heads ≡ 17 * (c.settings.endpoints + 1)) × (frames ≡ 1024))
    frames_taken g eg t = frames_tell (sym eg ∙ not-false g t)
