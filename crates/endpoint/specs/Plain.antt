-- What the calls on endpoints answer and leave of the plain state.
use Rattle.std.specs.Prelude.{Result, ℕ, ⊤}
use Rattle.state.specs.Plain.{Ehci}
use Rattle.common.specs.declared.answer.Refusal.{Refusal}

pub record EndpointOpening : Type 0 where
  pub answer : Result ℕ Refusal
  pub state : Ehci

-- what close, set address, set packet size and clear-halt leave
pub record Change : Type 0 where
  pub answer : Result ⊤ Refusal
  pub state : Ehci
