-- The places of a pool in the row of their owners (0 is free): which hold x, the lowest free ones taken, those of one owner freed.
use Rattle.std.specs.Prelude.{ℕ, zero, suc, ◌+◌, ◌-◌, ◌<◌, Bool, true, false, List, [], ◌∷◌, ◌++◌, eqb, length, replicate, take}
use Rattle.pool.specs.Plain.{Places}

abbrev pub list_if : Bool → List ℕ → List ℕ → List ℕ
list_if true a b = a
list_if false a b = b

-- the first n places that hold x, ascending; i is the number of the list's first place
unfoldable pub places_from : ℕ → List ℕ → ℕ → ℕ → List ℕ
places_from i [] x n = []
places_from i (y ∷ ys) x n =
    list_if (eqb n 0) [] (list_if (eqb y x) (i ∷ places_from (suc i) ys x (n - 1)) (places_from (suc i) ys x n))

-- the lowest n free places become x's
unfoldable pub mark_of : List ℕ → ℕ → ℕ → List ℕ
mark_of [] n x = []
mark_of (y ∷ ys) n x =
    list_if (eqb n 0) (y ∷ ys) (list_if (eqb y 0) (x ∷ mark_of ys (n - 1) x) (y ∷ mark_of ys n x))

-- the places that hold x become free
unfoldable pub clear_of : ℕ → List ℕ → List ℕ
clear_of x [] = []
clear_of x (y ∷ ys) = list_if (eqb y x) (0 ∷ clear_of x ys) (y ∷ clear_of x ys)

-- n places from place i on
unfoldable pub up_from : ℕ → ℕ → List ℕ
up_from i zero = []
up_from i (suc n) = i ∷ up_from (suc i) n

-- a list of at most 256 places, by value; unused places are 0
unfoldable pub packed : List ℕ → Places
packed ps = record { count = length ps; at = ps ++ replicate (256 - length ps) 0 }

unfoldable pub list_of : Places → List ℕ
list_of p = take p.count p.at

-- how many of the places hold x
abbrev pub bit_of : Bool → ℕ
bit_of true = 1
bit_of false = 0

unfoldable pub count_of : ℕ → List ℕ → ℕ
count_of x [] = 0
count_of x (y ∷ ys) = bit_of (eqb y x) + count_of x ys

abbrev pub Each : (ℕ → Type 0) → List ℕ → Type 0
Each P [] = Unit
Each P (p ∷ ps) = P p × Each P ps

-- every place is one of n
abbrev pub Within : ℕ → List ℕ → Type 0
Within n ps = Each (λ p. p < n) ps

-- every place is below all that follow it
abbrev pub Ascending : List ℕ → Type 0
Ascending [] = Unit
Ascending (p ∷ ps) = Each (λ q. p < q) ps × Ascending ps
