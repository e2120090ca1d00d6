-- One call on a world: the state and the four rows. What the pool's records say comes in, the chain that is decided is written to them.
use Rattle.std.specs.Prelude.{ℕ, List, length}
use Rattle.descriptor.specs.declared.qtd.QueueTransferDescriptor.{QueueTransferDescriptor}
use Rattle.pool.specs.Chains.{fill_of, read_of, seen_from, view_of}
use Rattle.pool.specs.Places.{list_of}
use Rattle.pool.specs.Plain.{Ask}
use Rattle.pool.specs.declared.chain.View.{View}
use Rattle.state.specs.Plain.{Ehci}
use Rattle.ehci.specs.declared.call.Call.{Call}
use Rattle.ehci.specs.Plain.{Reply}
use Rattle.ehci.specs.Decides.{Outcome, asks_of, decide_of}

-- the reply, and every row then
pub record Applied : Type 0 where
  pub reply : Reply
  pub pool : List QueueTransferDescriptor
  pub heads : List ℕ
  pub frames : List ℕ
  pub setups : List ℕ

abbrev pub applied : Reply → List QueueTransferDescriptor → List ℕ → List ℕ → List ℕ → Applied
applied r pool heads frames setups =
    record { reply = r; pool = pool; heads = heads; frames = frames; setups = setups }

-- what the records say of what is asked
abbrev pub seen_by : Ask → List QueueTransferDescriptor → View
seen_by a pool = view_of (read_of a.stops (seen_from a.kind a.length a.limit 0 (list_of a.places) pool))

-- the chain is written, the rest is as decided
abbrev pub carried_out : Outcome → List QueueTransferDescriptor → Applied
carried_out o pool =
    applied o.decided.reply (fill_of o.decided.chain pool) o.heads o.frames o.setups

unfoldable pub apply_of : Ehci → List QueueTransferDescriptor → List ℕ → List ℕ → List ℕ → Call → Applied
apply_of s pool heads frames setups call =
    carried_out (decide_of s (length pool) heads frames setups (seen_by (asks_of s (length pool) call) pool) call) pool
