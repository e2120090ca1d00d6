-- The lengths that a call is lent, and what an allotment leaves of the plain state.
use Rattle.std.specs.Prelude.{ℕ, Result}
use Rattle.state.specs.Plain.{Ehci}
use Rattle.common.specs.declared.answer.Refusal.{Refusal}

-- the lengths of the four rows
pub record Lengths : Type 0 where
  pub pool : ℕ
  pub heads : ℕ
  pub frames : ℕ
  pub setups : ℕ

pub record Allotment : Type 0 where
  pub answer : Result ℕ Refusal
  pub state : Ehci
