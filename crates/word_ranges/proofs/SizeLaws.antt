-- The table of sizes: the size less 1, where 0 goes round to the last of eleven bits, is below its entry exactly where the size is right.
use Rattle.std.specs.Prelude.{◌≡◌, ℕ, ◌+◌, ◌%◌, ◌<◌, min, Bool, true, false, ltb, ◌≢◌, get_or}
use mathlib.Core.Path.{refl, sym}
use native.Mathlib.Omega.{arith}
use borrow.Author.Tests.{eq-eqb, lt-ltb, ltb-true, ne_eqb}
use Rattle.slot.specs.Ranges.{size_good}
use Rattle.slot.proofs.SlotLaws.{SizeGood, size_makes, size_tells}
use Rattle.words.specs.Record.{kind_in, phase_in, size_in}
use Rattle.word_ranges.specs.Bounds.{size_right, sizes_of}
use Rattle.word_ranges.proofs.WordLaws.{Four, four, is_0, is_1, is_2, is_3}

alike : (a b : Bool) → (a ≡ true → b ≡ true) → (b ≡ true → a ≡ true) → a ≡ b
alike true b f g = sym (f refl)
alike false true f g = g refl
alike false false f g = refl

module _ (limit w : ℕ) where
  abbrev less : ℕ
  less = (size_in w + 2047) % 2048

  abbrev Same : Type 0
  Same = ltb less (get_or (sizes_of limit) (w % 16) 0) ≡ size_right limit w

  closed_any : (n : ℕ) → w % 16 ≡ n → get_or (sizes_of limit) n 0 ≡ 2048 → phase_in w ≡ 0 → Same
  unfolding size_right
  closed_any n q m p = rw (q, m, lt-ltb less 2048 (omega arith), eq-eqb (phase_in w) 0 p)

  open_most : (n m : ℕ) → w % 16 ≡ n → get_or (sizes_of limit) n 0 ≡ m → phase_in w ≢ 0 → (less < m → SizeGood limit (kind_in w) (size_in w))
      → (SizeGood limit (kind_in w) (size_in w) → less < m) → Same
  unfolding size_right
  open_most n m q e p tells makes =
      rw (q, e, ne_eqb (phase_in w) 0 p)
      (alike (ltb less m) (size_good limit (kind_in w) (size_in w)) (λ t. size_makes limit (kind_in w) (size_in w) (tells (ltb-true less m t)))
      (λ t. lt-ltb less m (makes (size_tells limit (kind_in w) (size_in w) t))))

  control_most : (n : ℕ) → w % 16 ≡ n → get_or (sizes_of limit) n 0 ≡ 1024 → phase_in w ≢ 0 → kind_in w ≡ 0 → Same
  control_most n q e p k =
      open_most n 1024 q e p
      (λ h. record { size_least = omega (arith, h); size_most = omega (arith, h); size_fits = λ ne. absurd (ne k) })
      (λ g. omega (arith, g.size_least, g.size_most))

  other_most : (n : ℕ) → w % 16 ≡ n → get_or (sizes_of limit) n 0 ≡ min limit 1024 → phase_in w ≢ 0 → kind_in w ≢ 0 → Same
  other_most n q e p k =
      open_most n (min limit 1024) q e p
      (λ h. record { size_least = omega (arith, h); size_most = omega (arith, h); size_fits = λ ne. omega (arith, h) })
      (λ g. omega (arith, g.size_least, g.size_most, g.size_fits k))

  by : Four (phase_in w) → Four (kind_in w) → Same
  unfolding sizes_of
  by (is_0 p) (is_0 k) = closed_any 0 (omega arith) refl p
  by (is_0 p) (is_1 k) = closed_any 4 (omega arith) refl p
  by (is_0 p) (is_2 k) = closed_any 8 (omega arith) refl p
  by (is_0 p) (is_3 k) = closed_any 12 (omega arith) refl p
  by (is_1 p) (is_0 k) = control_most 1 (omega arith) refl (λ z. omega arith) k
  by (is_1 p) (is_1 k) = other_most 5 (omega arith) refl (λ z. omega arith) (λ z. omega arith)
  by (is_1 p) (is_2 k) = other_most 9 (omega arith) refl (λ z. omega arith) (λ z. omega arith)
  by (is_1 p) (is_3 k) = other_most 13 (omega arith) refl (λ z. omega arith) (λ z. omega arith)
  by (is_2 p) (is_0 k) = control_most 2 (omega arith) refl (λ z. omega arith) k
  by (is_2 p) (is_1 k) = other_most 6 (omega arith) refl (λ z. omega arith) (λ z. omega arith)
  by (is_2 p) (is_2 k) = other_most 10 (omega arith) refl (λ z. omega arith) (λ z. omega arith)
  by (is_2 p) (is_3 k) = other_most 14 (omega arith) refl (λ z. omega arith) (λ z. omega arith)
  by (is_3 p) (is_0 k) = control_most 3 (omega arith) refl (λ z. omega arith) k
  by (is_3 p) (is_1 k) = other_most 7 (omega arith) refl (λ z. omega arith) (λ z. omega arith)
  by (is_3 p) (is_2 k) = other_most 11 (omega arith) refl (λ z. omega arith) (λ z. omega arith)
  by (is_3 p) (is_3 k) = other_most 15 (omega arith) refl (λ z. omega arith) (λ z. omega arith)

  pub size_told : Same
  size_told = by (four (phase_in w) (omega arith)) (four (kind_in w) (omega arith))
