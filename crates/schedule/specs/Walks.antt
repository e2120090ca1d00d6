-- Following the links of a schedule, as EHCI 3.6 reads them.
use Rattle.std.specs.Prelude.{◌≡◌, ℕ, ◌+◌, ◌*◌, ◌<◌, ◌⊎◌, List, [], ◌∷◌, length, ◌≢◌}
use Rattle.state.specs.Plain.{Ehci}
use Rattle.schedule.specs.Links.{slot_link, link_word}

-- from a link word on, the links meet the heads of these slots, in order, and then that word
abbrev pub Chain : Ehci → List ℕ → ℕ → List ℕ → ℕ → Type 0
Chain s heads word [] end = word ≡ end
Chain s heads word (k ∷ ks) end = (word ≡ slot_link s k) × Chain s heads (link_word heads k) ks end

-- slot k is none of these
abbrev pub Avoids : ℕ → List ℕ → Type 0
Avoids k [] = Unit {0}
Avoids k (j ∷ ks) = (j ≢ k) × Avoids k ks

-- all different
abbrev pub Distinct : List ℕ → Type 0
Distinct [] = Unit {0}
Distinct (k ∷ ks) = Avoids k ks × Distinct ks

-- each has its head in the row
abbrev pub Within : List ℕ → List ℕ → Type 0
Within heads [] = Unit {0}
Within heads (k ∷ ks) = (17 * (k + 1) < length heads) × Within heads ks

-- slot i is one of these
abbrev pub In : ℕ → List ℕ → Type 0
In i [] = ⊥
In i (k ∷ ks) = (i ≡ k) ⊎ In i ks
