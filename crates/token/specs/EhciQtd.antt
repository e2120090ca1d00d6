-- EHCI 1.0, section 3.5.3: the fields of a queue transfer descriptor's token, by position and width.
-- Imports nothing of the project.
use Rattle.std.specs.Prelude.{ℕ, ◌/◌, ◌%◌, ◌^◌}

-- n bits of a word, from bit lo on
abbrev pub field : ℕ → ℕ → ℕ → ℕ
field w lo n = w / 2 ^ lo % 2 ^ n

abbrev pub status : ℕ → ℕ
status w = field w 0 8

abbrev pub pid_code : ℕ → ℕ
pid_code w = field w 8 2

abbrev pub error_counter : ℕ → ℕ
error_counter w = field w 10 2

abbrev pub current_page : ℕ → ℕ
current_page w = field w 12 3

abbrev pub interrupt_on_complete : ℕ → ℕ
interrupt_on_complete w = field w 15 1

abbrev pub total_bytes : ℕ → ℕ
total_bytes w = field w 16 15

abbrev pub data_toggle : ℕ → ℕ
data_toggle w = field w 31 1

-- of the status: Active; Halted; Transaction Error, which stays set where a retry went through
abbrev pub active : ℕ → ℕ
active w = field w 7 1

abbrev pub halted : ℕ → ℕ
halted w = field w 6 1

abbrev pub transaction_error : ℕ → ℕ
transaction_error w = field w 3 1

-- PID codes (table 3-16)
abbrev pub out_code : ℕ
out_code = 0

abbrev pub in_code : ℕ
in_code = 1

abbrev pub setup_code : ℕ
setup_code = 2
