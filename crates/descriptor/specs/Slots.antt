-- Document 01, "Descriptors, heads, links": the five page slots of a buffer.
use Rattle.std.specs.Prelude.{ℕ, ◌+◌, ◌-◌, ◌*◌, ◌%◌, Bool, true, false, List, [], ◌∷◌, eqb, ltb, replicate}

abbrev pub page_if : Bool → ℕ → ℕ
page_if true page = page
page_if false page = 0

-- slot i (1 to 4): A − A mod 4096 + 4096·i if below A + L, else 0
abbrev pub later_slot : ℕ → ℕ → ℕ → ℕ
later_slot A L i = page_if (ltb (A - A % 4096 + 4096 * i) (A + L)) (A - A % 4096 + 4096 * i)

abbrev pub filled_slots : ℕ → ℕ → List ℕ
filled_slots A L = A ∷ later_slot A L 1 ∷ later_slot A L 2 ∷ later_slot A L 3 ∷ later_slot A L 4 ∷ []

abbrev pub zero_slots : List ℕ
zero_slots = replicate 5 0

abbrev pub slots_if : Bool → ℕ → ℕ → List ℕ
slots_if true A L = zero_slots
slots_if false A L = filled_slots A L

-- at L = 0 all are 0; else slot 0 is A
unfoldable pub page_slots : ℕ → ℕ → List ℕ
page_slots A L = slots_if (eqb L 0) A L
