-- What the calls that read or replace one record of the lent row answer, and the row after them.
use Rattle.std.specs.Prelude.{ℕ, Bool, cond, List, ltb, length, get_or, set, Result, Ok, Err, ⊤}
use Rattle.common.specs.declared.answer.Refusal.{Refusal}
use Rattle.common.specs.declared.answer.Refusal.TheVariants.{InvalidParameter}
use Rattle.descriptor.specs.declared.qtd.QueueTransferDescriptor.{QueueTransferDescriptor}
use Rattle.pool.specs.Chains.{blank}

-- a place at or beyond the row's length is an invalid parameter
abbrev pub found_if : {A : Type 0} → Bool → A → Result A Refusal
found_if inside a = cond inside (Ok a) (Err InvalidParameter)

-- the record at a place
unfoldable pub read_of : List QueueTransferDescriptor → ℕ → Result QueueTransferDescriptor Refusal
read_of rows place = found_if (ltb place (length rows)) (get_or rows place blank)

-- what a replacement answers, and the row after it
pub record Replaced : Type 0 where
  pub answer : Result ⊤ Refusal
  pub rows : List QueueTransferDescriptor

abbrev pub replaced : Result ⊤ Refusal → List QueueTransferDescriptor → Replaced
replaced answer rows = record { answer = answer; rows = rows }

-- where it is refused, the row stays
unfoldable pub replace_of : List QueueTransferDescriptor → ℕ → QueueTransferDescriptor → Replaced
replace_of rows place r =
    let inside : Bool = ltb place (length rows) in
    replaced (found_if inside tt) (cond inside (set rows place r) rows)
