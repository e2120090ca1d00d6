-- What the definitions say of a pool's records: which places, and what becomes of each or is asked of it.
use Rattle.std.specs.Prelude.{ℕ, Bool, List}
use Rattle.common.specs.declared.kinds.EndpointType.{EndpointType}
use Rattle.pool.specs.declared.transfer.Transfer.{Transfer as Request}

-- the first `count` of the numbers are the places, the others are 0
pub record Places : Type 0 where
  pub count : ℕ
  pub at : List ℕ

-- what becomes of each record of a chain
pub data Deed : Type 0 where
  Leave Open : Deed
  Transfer : Request → Deed
  Token : ℕ → Deed

-- `base` is the address of the pool's area
pub record Chain : Type 0 where
  pub places : Places
  pub base : ℕ
  pub deed : Deed

-- `stops`: it is read up to its first short descriptor, and no further
pub record Ask : Type 0 where
  pub places : Places
  pub kind : EndpointType
  pub length : ℕ
  pub limit : ℕ
  pub stops : Bool
