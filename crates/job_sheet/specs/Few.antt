-- A list in a row of fixed length: its things, one more of them, and a list as the code holds it.
use Rattle.std.specs.Prelude.{ℕ, ◌≡◌, ◌+◌, ◌-◌, All, List, ◌++◌, length, replicate, set, take}
use Rattle.job_sheet.specs.declared.few.Few.{Few}

abbrev pub items : {T : Type 0} → {n : ℕ} → Few T n → List T
items f = take f.count f.row

-- nothing in it, and each place spare
abbrev pub IsFresh : {T : Type 0} → {n : ℕ} → (T → Type 0) → Few T n → Type 0
IsFresh IsSpare f = (f.count ≡ 0) × All IsSpare f.row

abbrev pub pushed : {T : Type 0} → {n : ℕ} → Few T n → T → Few T n
pushed f thing = record { row = set f.row f.count thing; count = f.count + 1 }

-- some things, and in the places that are left the one for none
unfoldable pub filled : {A : Type 0} → ℕ → A → List A → List A
filled size none xs = xs ++ replicate (size - length xs) none

abbrev pub few_of : {T : Type 0} → (n : ℕ) → T → List T → Few T n
few_of n none xs = record { row = filled n none xs; count = length xs }
