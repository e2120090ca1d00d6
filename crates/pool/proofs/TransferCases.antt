-- The returns of the functions that make a request's k-th descriptor.
use Prim.Native.Nat.{ℕ}
use mathlib.Core.Path.{◌≡◌, refl, sym, ◌∙◌}
use mathlib.Core.Bool.{Bool, true, false}
use borrow.Author.Tests.{eq-eqb, ne_eqb}
use Rattle.token.specs.declared.plan.ControlTdPlan.{ControlTdPlan}
use Rattle.std.specs.Prelude.{Some, None}
use Rattle.token.specs.declared.qtd.QtdToken.{QtdToken}
use Rattle.common.specs.declared.kinds.Direction.{Direction}
use Rattle.common.specs.declared.kinds.EndpointType.{EndpointType}
use Rattle.common.specs.declared.kinds.EndpointType.TheVariants.{Control, Isochronous, Bulk, Interrupt}
use Rattle.token.specs.Chunks.{chunk_at}
use Rattle.token.specs.Plans.{control_plan}
use Rattle.descriptor.specs.declared.qtd.QueueTransferDescriptor.{QueueTransferDescriptor}
use Rattle.descriptor.specs.Descriptors.{new_qtd}
use Rattle.pool.specs.declared.transfer.Transfer.{Transfer}
use Rattle.pool.specs.Transfers.{alternate_word, ends_short, requested_at, stage_of_place}

module _ (kind : EndpointType) (direction : Direction) (shared : ℕ) (b : Bool) (e : b ≡ ends_short kind direction) where
  pub alternate_shared : b ≡ true → shared ≡ alternate_word kind direction shared
  alternate_shared z = rw (sym e ∙ z)

  pub alternate_none : b ≡ false → 1 ≡ alternate_word kind direction shared
  alternate_none z = rw (sym e ∙ z)

chunk_asked : (kind : EndpointType) (length limit k : ℕ) → (kind ≡ Control → ⊥) → chunk_at k length limit ≡ requested_at kind length limit k
unfolding requested_at
chunk_asked Control length limit k e = absurd (e refl)
chunk_asked Isochronous length limit k e = refl
chunk_asked Bulk length limit k e = refl
chunk_asked Interrupt length limit k e = refl

module _ (kind : EndpointType) (length limit k : ℕ) where
  pub asked_data : kind ≡ Control → k ≡ 1 → length ≡ requested_at kind length limit k
  unfolding requested_at
  asked_data e z = rw (e, eq-eqb k 1 z)

  pub asked_none : kind ≡ Control → (k ≡ 1 → ⊥) → 0 ≡ requested_at kind length limit k
  unfolding requested_at
  asked_none e z = rw (e, ne_eqb k 1 z)

  pub asked_chunk : (r : ℕ) → (kind ≡ Control → ⊥) → r ≡ chunk_at k length limit → r ≡ requested_at kind length limit k
  asked_chunk r e er = er ∙ chunk_asked kind length limit k e

module _ (t : Transfer) (k : ℕ) (plan : ControlTdPlan) (r : QueueTransferDescriptor) (e : plan ≡ control_plan t.direction t.length) where
  pub stage_setup : r ≡ new_qtd plan.setup t.setup 8 → k ≡ 0 → r ≡ stage_of_place t k
  unfolding stage_of_place
  stage_setup er z = rw (er, e, eq-eqb k 0 z)

  pub stage_bare : plan.«data» ≡ None → r ≡ new_qtd plan.status 0 0 → (k ≡ 0 → ⊥) → r ≡ stage_of_place t k
  unfolding stage_of_place
  stage_bare ed er z = rw (er, ne_eqb k 0 z, ← e, ed)

  pub stage_data : (w : QtdToken) → plan.«data» ≡ Some w → r ≡ new_qtd w t.address t.length → (k ≡ 0 → ⊥) → k ≡ 1 → r ≡ stage_of_place t k
  unfolding stage_of_place
  stage_data w ed er z o = rw (er, ne_eqb k 0 z, ← e, ed, eq-eqb k 1 o)

  pub stage_status : (w : QtdToken) → plan.«data» ≡ Some w → r ≡ new_qtd plan.status 0 0 → (k ≡ 0 → ⊥) → (k ≡ 1 → ⊥) → r ≡ stage_of_place t k
  unfolding stage_of_place
  stage_status w ed er z o = rw (er, ne_eqb k 0 z, ← e, ed, ne_eqb k 1 o)
