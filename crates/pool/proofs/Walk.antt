-- A loop that goes over a list from the front, against a definition that recurses on it: what is done is `take i a`, what is left `drop i a`.
use mathlib.Core.Path.{◌≡◌}
use mathlib.Core.List.{List, ◌∷◌, ◌++◌}
use Prim.Native.Nat.{ℕ, ◌+◌, ◌<◌}
use native.Mathlib.Numerals.{add-one}
use lib.ListN.{length, get_or, take}
use lib.Seq.{take-suc, append_snoc}

-- a turn that keeps the element, and one that stores y
pub kept : (a : List ℕ) (i : ℕ) (z : List ℕ) → i < length a → take (i + 1) a ++ z ≡ take i a ++ get_or a i 0 ∷ z
kept a i z h = rw (add-one, take-suc a i 0, append_snoc)
