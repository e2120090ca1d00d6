-- EHCI 1.0, section 3.5.1: a chain of transfer descriptors, as the controller follows it. Of the project it imports the
-- pointer's fields alone.
use Rattle.std.specs.Prelude.{ℕ, zero, suc, Bool, true, false, List, [], ◌∷◌, eqb}
use Rattle.descriptor.specs.EhciQtd.{terminate, qtd_address}

abbrev pub stop_if : Bool → List ℕ → List ℕ
stop_if true l = []
stop_if false l = l

-- the addresses met from a next pointer on, at most so many; `next` has the next pointer of the descriptor at an address
unfoldable pub follow : (ℕ → ℕ) → ℕ → ℕ → List ℕ
follow next zero w = []
follow next (suc m) w = stop_if (eqb (terminate w) 1) (qtd_address w ∷ follow next m (next (qtd_address w)))
