-- What a submit's overlay leaves: three words of the slot's head are written, and the row keeps its length.
use Rattle.std.specs.Prelude.{◌≡◌, ℕ, ◌+◌, ◌*◌, ◌≢◌, List, length, get_or}
use mathlib.Core.Path.{◌∙◌}
use lib.ListN.{length-set}
use lib.Seq.{get_or-set_other}
use Rattle.opening.specs.Heads.{with_head_word}
use Rattle.schedule.specs.Links.{started_overlay}

module _ (heads : List ℕ) (k first token : ℕ) where
  pub started_word : (i : ℕ) → i ≢ 17 * (k + 1) + 4 → i ≢ 17 * (k + 1) + 5 → i ≢ 17 * (k + 1) + 6
      → get_or (started_overlay heads k first token) i 0 ≡ get_or heads i 0
  unfolding started_overlay
  started_word i n4 n5 n6 =
      let one = with_head_word heads (k + 1) 4 first in
      let two = with_head_word one (k + 1) 5 1 in
      get_or-set_other two (17 * (k + 1) + 6) i token 0 n6 ∙ get_or-set_other one (17 * (k + 1) + 5) i 1 0 n5 ∙ get_or-set_other heads (17 * (k + 1) + 4) i first 0 n4

  pub started_length : length (started_overlay heads k first token) ≡ length heads
  unfolding started_overlay
  started_length =
      let one = with_head_word heads (k + 1) 4 first in
      let two = with_head_word one (k + 1) 5 1 in
      length-set two (17 * (k + 1) + 6) token ∙ length-set one (17 * (k + 1) + 5) 1 ∙ length-set heads (17 * (k + 1) + 4) first
