-- EHCI 1.0, section 2.3.9: the bits of PORTSC, by position. Imports nothing of the project.
use Rattle.std.specs.Prelude.{ℕ, ◌/◌, ◌%◌, ◌^◌, List, [], ◌∷◌, map}

abbrev pub current_connect : ℕ → ℕ
current_connect w = w / 2 ^ 0 % 2

abbrev pub port_enabled : ℕ → ℕ
port_enabled w = w / 2 ^ 2 % 2

-- Current Connect Status, Connect Status Change, Port Enabled, Port Enable Change, Over-current Change, Port Reset,
-- Port Power, Port Owner
abbrev pub portsc_table : List ℕ
portsc_table = 0 ∷ 1 ∷ 2 ∷ 3 ∷ 5 ∷ 8 ∷ 12 ∷ 13 ∷ []

-- the word that has the bit at each position of the table, alone
abbrev pub masks : List ℕ → List ℕ
masks = map (λ p. 2 ^ p)
