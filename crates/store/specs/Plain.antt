-- A store whose state is plain, and what an opening or a call leaves of it. The words of the code's store stand for its state.
use Rattle.std.specs.Prelude.{ℕ, List, Result, ⊤}
use Rattle.descriptor.specs.declared.qtd.QueueTransferDescriptor.{QueueTransferDescriptor}
use Rattle.opening.specs.declared.hub.EhciRootHub.{EhciRootHub}
use Rattle.opening.specs.Plain.{Opening}
use Rattle.register.specs.declared.writes.Writes.{Writes}
use Rattle.state.specs.Plain.{Ehci}
use Rattle.ehci.specs.declared.reply.Answered.{Answered}
use Rattle.common.specs.declared.answer.Refusal.{Refusal}

pub record Store : Type 0 where
  pub state : Ehci
  pub pool : List QueueTransferDescriptor
  pub heads : List ℕ
  pub frames : List ℕ
  pub setups : List ℕ

pub record Called : Type 0 where
  pub store : Store
  pub answer : Result Answered Refusal
  pub writes : Writes

pub record OpenedStore : Type 0 where
  pub store : Store
  pub hub : EhciRootHub
  pub answer : Result ⊤ Refusal

-- what opening decides, and the rows then
pub record OpenedRows : Type 0 where
  pub opening : Opening
  pub pool : List QueueTransferDescriptor
  pub heads : List ℕ
  pub frames : List ℕ
  pub setups : List ℕ
