-- The returns of the functions on page slots and descriptors.
use Prim.Native.Nat.{ℕ, ◌+◌, ◌-◌, ◌%◌, ◌≤◌, ◌<◌}
use mathlib.Core.Path.{◌≡◌, ap, ◌∙◌}
use mathlib.Core.List.{List, [], ◌∷◌}
use borrow.Author.Tests.{eq-eqb, ne_eqb, lt-ltb, le-ltb}
use lib.Dec.{ltb}
use Rattle.std.specs.Prelude.{Option, Some}
use Rattle.token.specs.declared.qtd.QtdToken.{QtdToken}
use Rattle.descriptor.specs.declared.qtd.QueueTransferDescriptor.{QueueTransferDescriptor}
use Rattle.descriptor.specs.Descriptors.{new_qtd, word_of_next, qtd_with}
use Rattle.descriptor.specs.Slots.{page_if, page_slots}

pub below : (page end : ℕ) → page < end → page ≡ page_if (ltb page end) page
below page end h = rw (lt-ltb page end h)

pub beyond : (page end : ℕ) → end ≤ page → 0 ≡ page_if (ltb page end) page
beyond page end h = rw (le-ltb page end h)

pub empty_slots : (A L : ℕ) → L ≡ 0 → 0 ∷ 0 ∷ 0 ∷ 0 ∷ 0 ∷ [] ≡ page_slots A L
unfolding page_slots
empty_slots A L e = rw (eq-eqb L 0 e)

pub filled_slots_lem : (A L p₁ p₂ p₃ p₄ : ℕ) → (L ≡ 0 → ⊥)
    → p₁ ≡ page_if (ltb (A - A % 4096 + 4096) (A + L)) (A - A % 4096 + 4096)
    → p₂ ≡ page_if (ltb (A - A % 4096 + 8192) (A + L)) (A - A % 4096 + 8192)
    → p₃ ≡ page_if (ltb (A - A % 4096 + 12288) (A + L)) (A - A % 4096 + 12288)
    → p₄ ≡ page_if (ltb (A - A % 4096 + 16384) (A + L)) (A - A % 4096 + 16384)
    → A ∷ p₁ ∷ p₂ ∷ p₃ ∷ p₄ ∷ [] ≡ page_slots A L
unfolding page_slots
filled_slots_lem A L p₁ p₂ p₃ p₄ ne e₁ e₂ e₃ e₄ = rw (ne_eqb L 0 ne, e₁, e₂, e₃, e₄)

pub new_is : (t : QtdToken) (A L : ℕ) (pages : List ℕ) (d : QueueTransferDescriptor) → pages ≡ page_slots A L → d ≡ qtd_with t pages → d ≡ new_qtd t A L
unfolding new_qtd qtd_with
new_is t A L pages d e q = q ∙ ap (λ (x : List ℕ). qtd_with t x) e

pub next_at_lem : (n : Option ℕ) (a : ℕ) → n ≡ Some a → a - a % 32 ≡ word_of_next n
next_at_lem n a e = rw e
