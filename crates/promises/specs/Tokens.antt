-- What a token says, by EHCI's table alone (3.5.3).
use Rattle.std.specs.Prelude.{ℕ, Bool, not, ◌&&◌, eqb}
use Rattle.token.specs.EhciQtd.{active, halted, total_bytes}

abbrev pub is_active : ℕ → Bool
is_active token = not (eqb (active token) 0)

-- "Error shall mean bit 6, Halted, alone"
abbrev pub is_erring : ℕ → Bool
is_erring token = not (eqb (halted token) 0)

-- "inactive without error and has bytes left"
abbrev pub is_short : ℕ → Bool
is_short token = not (is_active token) && (not (is_erring token) && not (eqb (total_bytes token) 0))
