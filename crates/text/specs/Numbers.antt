-- Little-endian numbers.
use Rattle.std.specs.Prelude.{ℕ, zero, suc, ◌+◌, ◌*◌, ◌/◌, ◌%◌, List, [], ◌∷◌, drop, take}

-- a number in so many bytes, the lowest first
unfoldable pub little_endian : ℕ → ℕ → List ℕ
little_endian zero x = []
little_endian (suc width) x = x % 256 ∷ little_endian width (x / 256)

-- the number of such bytes
unfoldable pub number_of : List ℕ → ℕ
number_of [] = 0
number_of (b ∷ bs) = b + 256 * number_of bs

-- the number in so many bytes from a place on
abbrev pub number_at : List ℕ → ℕ → ℕ → ℕ
number_at bytes at width = number_of (take width (drop at bytes))
