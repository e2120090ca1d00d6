-- What the judge goes over: one word of each slot, from the free places on.
use Rattle.std.specs.Prelude.{ℕ, suc, ◌+◌, List, [], ◌∷◌, eqb}
use Rattle.std.specs.Int.Bits.{bit_and, bit_or}
use Rattle.bitset.specs.Words.{bit, pick}

-- every place met
unfoldable pub met_in : ℕ → List ℕ → ℕ
met_in a [] = a
met_in a (w ∷ ws) = met_in (bit_or a w) ws

-- every place met twice
unfoldable pub twice_in : ℕ → List ℕ → ℕ
twice_in a [] = 0
twice_in a (w ∷ ws) = bit_or (bit_and a w) (twice_in (bit_or a w) ws)

-- how many of the words have place i
unfoldable pub sum_bit : ℕ → List ℕ → ℕ
sum_bit i [] = 0
sum_bit i (w ∷ ws) = bit w i + sum_bit i ws

-- the first slot, from slot k on, whose word has place i, plus 1; 0 where none has
unfoldable pub owner_in : ℕ → ℕ → List ℕ → ℕ
owner_in i k [] = 0
owner_in i k (w ∷ ws) = pick (eqb (bit w i) 1) (suc k) (owner_in i (suc k) ws)
