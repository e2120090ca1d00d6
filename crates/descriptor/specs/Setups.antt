-- Document 01, "Tokens and plans": the setup packet of a control request. Its bytes 0 to 5 come as one number, byte 0
-- lowest; the length field is the buffer's.
use Rattle.std.specs.Prelude.{ℕ, ◌/◌, ◌%◌, ◌^◌, List, [], ◌∷◌}

-- byte k of a number, the lowest first
abbrev pub byte_of : ℕ → ℕ → ℕ
byte_of n k = n / 2 ^ k % 256

unfoldable pub setup_packet : ℕ → ℕ → List ℕ
setup_packet setup length =
    byte_of setup 0 ∷ byte_of setup 8 ∷ byte_of setup 16 ∷ byte_of setup 24 ∷ byte_of setup 32 ∷ byte_of setup 40
    ∷ byte_of length 0 ∷ byte_of length 8 ∷ []
