-- One word of 64 bits as a set of places: a bit, the set bits' places ascending, the n lowest of them, the bits below one.
use Rattle.std.specs.Prelude.{ℕ, zero, suc, ◌-◌, ◌*◌, ◌/◌, ◌%◌, ◌^◌, ◌<◌, min, Bool, true, false, List, [], ◌∷◌, eqb}
use Rattle.std.specs.Int.Bits.{bit_and}
use Rattle.std.specs.Int.Count.{ones}
use Rattle.bitset.specs.declared.word.Part.{Part}

unfoldable pub bit : ℕ → ℕ → ℕ
bit w i = w / 2 ^ i % 2

-- 1 where a test says true
abbrev pub one_if : Bool → ℕ
one_if true = 1
one_if false = 0

abbrev pub pick : Bool → ℕ → ℕ → ℕ
pick true a b = a
pick false a b = b

abbrev pub cons_if : Bool → ℕ → List ℕ → List ℕ
cons_if true i l = l
cons_if false i l = i ∷ l

-- the set bits among the k lowest of x; the lowest is place i
unfoldable pub places_of : ℕ → ℕ → ℕ → List ℕ
places_of i zero x = []
places_of i (suc k) x = cons_if (eqb (x % 2) 0) i (places_of (suc i) k (x / 2))

-- x without its n lowest set bits
unfoldable pub drop_bits : ℕ → ℕ → ℕ → ℕ
drop_bits zero x n = 0
drop_bits (suc k) x n = pick (eqb n 0) x (drop_bits k (x / 2) (n - x % 2) * 2)

-- these bits alone
abbrev pub take_bits : ℕ → ℕ → ℕ → ℕ
take_bits k x n = x - drop_bits k x n

unfoldable pub part_of : ℕ → ℕ → Part
part_of x n = record { taken = take_bits 64 x n; left = n - ones x }

-- the n lowest bits, all 64 where n is more
unfoldable pub ones_below : ℕ → ℕ
ones_below n = 2 ^ min n 64 - 1

-- the bits of x cleared
unfoldable pub cleared_of : ℕ → ℕ → ℕ
cleared_of w x = w - bit_and w x

abbrev pub Each : (ℕ → Type 0) → List ℕ → Type 0
Each P [] = Unit
Each P (p ∷ ps) = P p × Each P ps

-- words of 64 bits
abbrev pub Fitting : List ℕ → Type 0
Fitting ws = Each (λ w. w < 2 ^ 64) ws
