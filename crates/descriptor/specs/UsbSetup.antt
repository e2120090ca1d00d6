-- USB 2.0, section 9.3: the eight bytes of a setup packet. Imports nothing of the project.
use Rattle.std.specs.Prelude.{ℕ, ◌+◌, ◌*◌, ◌/◌, ◌%◌, ◌^◌, List, get_or}

abbrev pub byte : List ℕ → ℕ → ℕ
byte bytes k = get_or bytes k 0

-- a word of two bytes, the low one first
abbrev pub word_at : List ℕ → ℕ → ℕ
word_at bytes k = byte bytes k + byte bytes (k + 1) * 2 ^ 8

abbrev pub bm_request_type : List ℕ → ℕ
bm_request_type bytes = byte bytes 0

-- of it, bit 7: 1 is device to host
abbrev pub transfer_direction : ℕ → ℕ
transfer_direction request_type = request_type / 2 ^ 7 % 2

abbrev pub b_request : List ℕ → ℕ
b_request bytes = byte bytes 1

abbrev pub w_value : List ℕ → ℕ
w_value bytes = word_at bytes 2

abbrev pub w_index : List ℕ → ℕ
w_index bytes = word_at bytes 4

abbrev pub w_length : List ℕ → ℕ
w_length bytes = word_at bytes 6
