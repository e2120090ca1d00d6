-- What a call answers and leaves of the plain state.
use Rattle.std.specs.Prelude.{Result}
use Rattle.register.specs.declared.writes.Writes.{Writes}
use Rattle.pool.specs.Plain.{Chain}
use Rattle.state.specs.Plain.{Ehci}
use Rattle.ehci.specs.declared.reply.Answered.{Answered}
use Rattle.common.specs.declared.answer.Refusal.{Refusal}

pub record Reply : Type 0 where
  pub state : Ehci
  pub answer : Result Answered Refusal
  pub writes : Writes

-- what is decided before the pool is written: the reply, and the chain to write
pub record Decided : Type 0 where
  pub reply : Reply
  pub chain : Chain
