-- What a start or a step of bring-up answers and leaves of the plain state.
use Rattle.std.specs.Prelude.{ℕ, Option, Result, ⊤}
use Rattle.register.specs.declared.writes.Writes.{Writes}
use Rattle.state.specs.Plain.{Ehci}
use Rattle.common.specs.declared.answer.Refusal.{Refusal}

-- its writes, then the milliseconds to wait, then the register to read
pub record BroughtUp : Type 0 where
  pub answer : Result ⊤ Refusal
  pub state : Ehci
  pub writes : Writes
  pub read : Option ℕ
  pub wait : ℕ
