-- What the interrupt calls answer and leave of the plain state.
use Rattle.std.specs.Prelude.{Bool, Result, ⊤}
use Rattle.register.specs.declared.writes.Writes.{Writes}
use Rattle.state.specs.Plain.{Ehci}
use Rattle.interrupt.specs.declared.answers.Event.{Event}
use Rattle.common.specs.declared.answer.Refusal.{Refusal}

pub record Acknowledgement : Type 0 where
  pub answer : Result Bool Refusal
  pub state : Ehci
  pub writes : Writes

-- what a counted advance leaves
pub record Counted : Type 0 where
  pub state : Ehci
  pub writes : Writes

pub record Drainage : Type 0 where
  pub answer : Result Event Refusal
  pub state : Ehci
  pub writes : Writes

-- what rearm, enable and disable leave
pub record Settled : Type 0 where
  pub answer : Result ⊤ Refusal
  pub state : Ehci
  pub writes : Writes
