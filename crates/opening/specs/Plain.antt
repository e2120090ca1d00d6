-- What opening answers and leaves of the plain state.
use Rattle.std.specs.Prelude.{Result, ⊤}
use Rattle.state.specs.Plain.{Ehci}
use Rattle.opening.specs.declared.hub.EhciRootHub.{EhciRootHub}
use Rattle.common.specs.declared.answer.Refusal.{Refusal}

pub record Opening : Type 0 where
  pub answer : Result ⊤ Refusal
  pub state : Ehci
  pub hub : EhciRootHub
