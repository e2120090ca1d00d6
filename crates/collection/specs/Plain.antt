-- What cancel and collect answer and leave of the plain state.
use Rattle.std.specs.Prelude.{Result, ⊤}
use Rattle.register.specs.declared.writes.Writes.{Writes}
use Rattle.state.specs.Plain.{Ehci}
use Rattle.collection.specs.declared.collected.Collected.{Collected}
use Rattle.common.specs.declared.answer.Refusal.{Refusal}

-- what a cancel leaves, and an unlink
pub record Cancellation : Type 0 where
  pub answer : Result ⊤ Refusal
  pub state : Ehci
  pub writes : Writes

pub record Collection : Type 0 where
  pub answer : Result Collected Refusal
  pub state : Ehci
  pub writes : Writes
