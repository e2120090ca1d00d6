-- Words of 32 bits as registers use them: a word with bits set, without bits, some of its bits alone, whether any of some
-- bits is set.
use Rattle.std.specs.Prelude.{ℕ, ◌-◌, ◌+◌, ◌*◌, ◌/◌, ◌%◌, ◌^◌, Bool, not, eqb}
use Rattle.std.specs.Int.Bits.{bit_and, bit_or}

-- "value or bits"
unfoldable pub with_bits : ℕ → ℕ → ℕ
with_bits value bits = bit_or value bits

-- "value without bits"
unfoldable pub without_bits : ℕ → ℕ → ℕ
without_bits value bits = bit_and value (2 ^ 32 - 1 - bits)

-- "value and bits"
unfoldable pub only_bits : ℕ → ℕ → ℕ
only_bits value bits = bit_and value bits

unfoldable pub any_of : ℕ → ℕ → Bool
any_of value bits = not (eqb (bit_and value bits) 0)

-- the bit of a word at a position
abbrev pub bit : ℕ → ℕ → ℕ
bit w i = w / 2 ^ i % 2

-- bits lo to lo + n - 1 of a word, and the word with these bits replaced by v
abbrev pub field : ℕ → ℕ → ℕ → ℕ
field w lo n = w / 2 ^ lo % 2 ^ n

abbrev pub with_field : ℕ → ℕ → ℕ → ℕ → ℕ
with_field w lo n v = w - field w lo n * 2 ^ lo + v * 2 ^ lo
