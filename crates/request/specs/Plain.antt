-- What submit and writeback answer and leave of the plain state, and the chain that they write.
use Rattle.std.specs.Prelude.{ℕ, List, Result, ⊤}
use Rattle.register.specs.declared.writes.Writes.{Writes}
use Rattle.pool.specs.Plain.{Chain, Places}
use Rattle.state.specs.Plain.{Ehci}
use Rattle.common.specs.declared.answer.Refusal.{Refusal}

-- the places that a request takes, and the owners then
pub record Taken : Type 0 where
  pub places : Places
  pub owner : List ℕ

pub record Submitted : Type 0 where
  pub answer : Result ℕ Refusal
  pub state : Ehci
  pub writes : Writes
  pub chain : Chain

pub record WrittenBack : Type 0 where
  pub answer : Result ⊤ Refusal
  pub state : Ehci
  pub chain : Chain
