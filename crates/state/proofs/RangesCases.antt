-- The returns of the functions that decide the ranges.
use Prim.Native.Nat.{ℕ, zero, suc, ◌≤◌}
use mathlib.Core.Path.{◌≡◌, ◌∙◌}
use mathlib.Core.Bool.{◌&&◌}
use mathlib.Core.List.{List, [], ◌∷◌}
use native.Mathlib.Omega.{arith}
use lib.Dec.{eqb, leb, ltb}
use lib.ListN.{get_or}
use Rattle.common.proofs.TestLaws.{every_3, every_4}
use Rattle.state.specs.Plain.{Ehci}
use Rattle.register.specs.Bits.{without_bits}
use Rattle.common.specs.Tests.{within}
use Rattle.state.specs.Ranges.{largest, machine_good, interrupt_good, doorbell_good}

-- ---- the loop over the slots

-- ---- the largest

pub largest_le : (l : List ℕ) (i : ℕ) → get_or l i 0 ≤ largest l
unfolding largest
largest_le [] i = omega arith
largest_le (x ∷ l) zero = omega arith
largest_le (x ∷ l) (suc i) = omega (arith, largest_le l i)

module _ (s : Ehci) where
  pub machine_is : (leb s.running 1 && leb s.step 6 && ltb s.waited s.settings.wait && within s.address 1 128) ≡ machine_good s
  unfolding machine_good
  machine_is = every_4 (leb s.running 1) (leb s.step 6) (ltb s.waited s.settings.wait) (within s.address 1 128)

  pub interrupt_is : (p m : ℕ) → p ≡ without_bits s.pending 0x37 → m ≡ without_bits s.masked 0x27
      → (leb s.enabled 1 && eqb p 0 && eqb m 0) ≡ interrupt_good s
  unfolding interrupt_good
  interrupt_is p m ep em = every_3 (leb s.enabled 1) (eqb p 0) (eqb m 0) ∙ rw (ep, em)

  pub doorbell_is : (leb s.doorbell 1 && leb s.noted s.doorbell && within s.unanswered s.doorbell 32) ≡ doorbell_good s
  unfolding doorbell_good
  doorbell_is = every_3 (leb s.doorbell 1) (leb s.noted s.doorbell) (within s.unanswered s.doorbell 32)
