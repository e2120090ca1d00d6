use native.Mathlib.Omega.{arith}
use native.Mathlib.Nat.{div-le_self}
use Prim.Native.Nat.{◌-◌}
use Rattle.token.proofs.ChunkLaws.{count_empty_case, count_data_case}
use Rattle.token.proofs.chunks.chunk_count.Goals as goal

pub returns-then-length-eq0 : goal.returns-then-length-eq0
returns-then-length-eq0 c = search count_empty_case

pub returns : goal.returns
returns c = search count_data_case
