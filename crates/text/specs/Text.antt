-- Numbers as text, in the bytes of ASCII, and lines one after the other.
use Rattle.std.specs.Prelude.{ℕ, zero, suc, ◌+◌, ◌*◌, ◌/◌, ◌%◌, ◌-◌, Bool, cond, List, [], ◌∷◌, ◌++◌, ltb}

-- the digits of n, at most so many: those of a tenth and then the last, "0" for 0
unfoldable pub decimal_up_to : ℕ → ℕ → List ℕ
decimal_up_to zero n = []
decimal_up_to (suc most) n = cond (ltb n 10) ((48 + n) ∷ []) (decimal_up_to most (n / 10) ++ ((48 + n % 10) ∷ []))

-- twenty digits are enough for every number below 2 ^ 64
unfoldable pub decimal : ℕ → List ℕ
decimal n = decimal_up_to 20 n

-- 0 to 9, then a to f
abbrev pub hex_digit : ℕ → ℕ
hex_digit n = cond (ltb n 10) (48 + n) (87 + n)

-- the last so many hexadecimal digits of n
unfoldable pub hex : ℕ → ℕ → List ℕ
hex n zero = []
hex n (suc digits) = hex (n / 16) digits ++ (hex_digit (n % 16) ∷ [])

-- the number that some decimal digits say
unfoldable pub read_decimal : List ℕ → ℕ → ℕ
read_decimal [] before = before
read_decimal (digit ∷ rest) before = read_decimal rest (10 * before + (digit - 48))

-- what is said of 0, 1, .. n - 1, in this order
unfoldable pub lines_to : (ℕ → List ℕ) → ℕ → List ℕ
lines_to lines zero = []
lines_to lines (suc n) = lines_to lines n ++ lines n

abbrev pub only_if : Bool → List ℕ → List ℕ
only_if shown lines = cond shown lines []
