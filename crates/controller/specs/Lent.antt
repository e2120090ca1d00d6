-- Document 01, the order of checks: "First: a lent row of a length other than opening fixed, or a state outside its ranges".
use Rattle.std.specs.Prelude.{ℕ, Bool, ◌&&◌}
use Rattle.state.specs.Plain.{Ehci}
use Rattle.state.specs.Ranges.{in_ranges}
use Rattle.controller.specs.Plain.{Lengths}
use Rattle.opening.specs.Opening.{rows_are_fit}

-- the lengths of the four rows: pool, heads, frames, setups
abbrev pub lengths : ℕ → ℕ → ℕ → ℕ → Lengths
lengths pool heads frames setups = record { pool = pool; heads = heads; frames = frames; setups = setups }

unfoldable pub accepts_of : Ehci → Lengths → Bool
accepts_of s lent =
    rows_are_fit s.settings lent.pool lent.heads lent.frames lent.setups && in_ranges s
