-- Rows of words.
use Rattle.std.specs.Prelude.{ℕ, ◌+◌, List, ◌++◌, drop, length, take}

-- a row with some elements put over those from a place on
unfoldable pub put_at : {A : Type 0} → List A → ℕ → List A → List A
put_at row at elements = take at row ++ (elements ++ drop (at + length elements) row)
