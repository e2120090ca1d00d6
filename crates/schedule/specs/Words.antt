-- A head that precedes another, by the first word of its slot.
use Rattle.std.specs.Prelude.{ℕ, Bool, not, [], ◌∷◌, ◌==◌}
use Rattle.common.specs.Tests.{every}
use Rattle.words.specs.Record.{kind_in, phase_in}
use Rattle.schedule.specs.Links.{leads_to, same}

unfoldable pub precedes_word : ℕ → ℕ → ℕ → Bool → ℕ → ℕ → Bool
precedes_word j k mark framed word address =
    every (not (j == k) ∷ (phase_in mark == 2) ∷ same framed (kind_in mark == 3) ∷ leads_to word address ∷ [])
