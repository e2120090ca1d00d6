-- Tests that are joined.
use Rattle.std.specs.Prelude.{ℕ, Bool, true, ◌&&◌, List, [], ◌∷◌, leb}

-- every test of a list says true
abbrev pub every : List Bool → Bool
every [] = true
every (t ∷ ts) = t && every ts

-- x is at least the one and at most the other
abbrev pub within : ℕ → ℕ → ℕ → Bool
within x least most = leb least x && leb x most
