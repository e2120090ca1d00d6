-- The turns of the pass over the slots, and the returns of the judge.
use Rattle.std.specs.Prelude.{◌≡◌, ℕ, suc, ◌+◌, ◌-◌, ◌*◌, ◌/◌, ◌%◌, ◌<◌, ◌≤◌, Bool, true, false, not, ◌&&◌, ltb, leb, ◌≢◌, List, length, get_or}
use mathlib.Core.Path.{sym, ap, ◌∙◌}
use native.Mathlib.Omega.{arith}
use borrow.Author.Tests.{eq-eqb, ne_eqb, not-false, not-true}
use Rattle.settings.specs.declared.settings.Settings.{Settings}
use Rattle.words.specs.declared.cores.Rest.{Rest}
use Rattle.words.specs.Record.{last_at, places_at, word_at}
use Rattle.word_ranges.specs.declared.seen.Seen.{Seen}
use Rattle.word_ranges.specs.Bounds.{bounds_of, sizes_of, word_good}
use Rattle.word_ranges.proofs.SizeLaws.{size_told}
use Rattle.word_ranges.specs.Judge.{core_good, slots_good, words_good}
use Rattle.word_ranges.specs.Seen.{all_met, free_met, see_of, seen_from}

module _ (ws bounds sizes : List ℕ) (limit u E k : ℕ) (s t : Seen) (p : List ℕ) (ep : p ≡ places_at ws k) where
  -- as the code tells whether the size is right
  abbrev sized : Bool
  sized = ltb ((word_at ws k / 16 % 2048 + 2047) % 2048) (get_or sizes (word_at ws k % 16) 0)

  seen_step : (n : ℕ) → bounds ≡ bounds_of u → sizes ≡ sizes_of limit
      → t
      ≡ see_of s (leb (word_at ws k) (get_or bounds (word_at ws k % 16) 0) && sized) (word_at ws k) (last_at ws k) p
      → seen_from ws limit u (suc k) n t ≡ seen_from ws limit u k (suc n) s
  unfolding seen_from word_good
  seen_step n eb ez et = ap (seen_from ws limit u (suc k) n) (et ∙ rw (ez, eb, ep, size_told limit (word_at ws k)))

  pub seen_turn : (all : Seen) → k < E → bounds ≡ bounds_of u → sizes ≡ sizes_of limit
      → t
      ≡ see_of s (leb (word_at ws k) (get_or bounds (word_at ws k % 16) 0) && sized) (word_at ws k) (last_at ws k) p
      → seen_from ws limit u k (E - k) s ≡ all → seen_from ws limit u (k + 1) (E - (k + 1)) t ≡ all
  seen_turn all h eb ez et inv =
      let next : k + 1 ≡ suc k = omega arith in
      let left : E - k ≡ suc (E - suc k) = omega arith in
      rw next (seen_step (E - suc k) eb ez et ∙ (rw left at inv))

pub seen_start : (ws : List ℕ) (limit u E : ℕ) (s : Seen) → seen_from ws limit u 0 (E - 0) s ≡ seen_from ws limit u 0 E s
seen_start ws limit u E s = let all : E - 0 ≡ E = omega arith in rw all

pub seen_done : (ws free : List ℕ) (limit u E D k : ℕ) (s first : Seen) (r : Bool) → E ≤ k → first ≡ free_met free
    → seen_from ws limit u k (E - k) s ≡ seen_from ws limit u 0 E first → r ≡ all_met s D → r ≡ slots_good ws E D limit u free
unfolding seen_from slots_good
seen_done ws free limit u E D k s first r h ef inv er =
    let none : E - k ≡ 0 = omega arith in
    er ∙ ap (λ (t : Seen). all_met t D) ((rw none at inv) ∙ ap (seen_from ws limit u 0 E) ef)

module _ (s : Settings) (r : Rest) (ws : List ℕ) (c : Bool) (ec : c ≡ core_good s r) where
  pub words_core : not c ≡ true → false ≡ words_good s r ws
  unfolding words_good
  words_core t = rw (sym ec ∙ not-true c t)

  pub words_length : not c ≡ false → length ws ≢ 6 * s.endpoints → false ≡ words_good s r ws
  unfolding words_good
  words_length t ne = rw (sym ec ∙ not-false c t, ne_eqb (length ws) (6 * s.endpoints) ne)

  pub words_slots : not c ≡ false → length ws ≡ 6 * s.endpoints → (g : Bool)
      → g ≡ slots_good ws s.endpoints s.descriptors s.limit r.unanswered r.free → g ≡ words_good s r ws
  unfolding words_good
  words_slots t e g eg = eg ∙ rw (sym ec ∙ not-false c t, eq-eqb (length ws) (6 * s.endpoints) e)
