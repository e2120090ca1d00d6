-- Facts on every place of a list.
use Prim.Native.Nat.{ℕ, zero, suc, ◌<◌}
use mathlib.Core.List.{List, [], ◌∷◌}
use native.Mathlib.Omega.{arith}
use lib.ListN.{get_or, length}
use Rattle.pool.specs.Places.{Each}

pub each_at : (P : ℕ → Type 0) (ps : List ℕ) (k : ℕ) → Each P ps → k < length ps → P (get_or ps k 0)
each_at P [] k e h = absurd (omega (arith, h))
each_at P (p ∷ ps) zero e h = e.0
each_at P (p ∷ ps) (suc k) e h = each_at P ps k e.1 (omega (arith, h))

pub each_map : (P Q : ℕ → Type 0) → ((p : ℕ) → P p → Q p) → (ps : List ℕ) → Each P ps → Each Q ps
each_map P Q f [] e = tt
each_map P Q f (p ∷ ps) e = (f p e.0, each_map P Q f ps e.1)
