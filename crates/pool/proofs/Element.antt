-- What each walk over a slice of records cites: the record's type and laws by short names, where element i lies, and that its offset in bytes fits.
-- For a slice of another struct, change the three `use` lines of the struct, and `bytes`.
-- Assumes nothing.
use mathlib.Core.Path.{◌≡◌}
use Prim.Native.Nat.{ℕ, ◌+◌, ◌*◌, ◌<◌, ◌^◌}
use native.Mathlib.Omega.{arith}
use mathlib.Core.List.{List}
use mir.Val.{Val}
use denote.RattleType.{RattleType}
use denote.Laws.{Is, Tells}
use denote.Slice.{Room}
use denote.Index.{place, place_is}
use denote.Struct.Declared.{Declared}
use denote.Struct.Laws as LL
use Rattle.descriptor.specs.declared.qtd.QueueTransferDescriptor.{QueueTransferDescriptor as Record}
use Rattle.descriptor.specs.contracts.qtd.QueueTransferDescriptor as T
use Rattle.descriptor.proofs.qtd.QueueTransferDescriptor.TheLaws as T'

abbrev pub R : RattleType
R = T.the_row

abbrev pub D : Declared
D = T.the_type

abbrev pub L : LL.Laws D
L = T'.the_laws

-- a record's machine value. It is `LL.val`, and not `T'.lowered`: where a field is an array the two differ until the list is known
abbrev pub mach : Record → Val
mach = LL.val D L

-- a record's machine values, and that its relation tells them
abbrev pub vals : Record → List Val
vals = LL.vals D L

pub tells : Tells R (Is R) vals
tells = LL.tells D L

-- the struct's size in bytes, which MIR multiplies the index by
abbrev pub bytes : ℕ
bytes = 52

pub place_row : (o i : ℕ) → place bytes o i ≡ i * bytes + o
place_row o i = place_is bytes o i

-- the offset of element i fits a usize: all the elements take at most isize::MAX bytes
pub offset_fits : (n i : ℕ) → Room R n → i < n → i * bytes < 2 ^ 64
offset_fits n i room l = omega (arith, l, room.1)
