-- What is kept from record to record, over a plain store. The words of the code's keeper stand for its state.
use Rattle.std.specs.Prelude.{ℕ, Bool, Option}
use Rattle.opening.specs.declared.hub.EhciRootHub.{EhciRootHub}
use Rattle.store.specs.Plain.{Store}

pub record Keeper : Type 0 where
  pub store : Store
  pub hub : EhciRootHub
  pub opened : Bool

-- what is kept, where the log goes on, and where what is said ends
pub record Turned : Type 0 where
  pub keeper : Option Keeper
  pub end : ℕ
