-- An answer and its register writes in numbers.
use Rattle.std.specs.Prelude.{ℕ, List, [], ◌∷◌, slice_index_or, Err, None, Ok, Option, Result, Some}
use Rattle.common.specs.declared.answer.Refusal.TheVariants.{InvalidParameter}
use Rattle.register.specs.Writes.{no_writes, write_of}
use Rattle.register.specs.declared.writes.Write.{Write}
use Rattle.register.specs.declared.writes.Writes.{Writes}
use Rattle.words.specs.declared.cores.Rest.{Rest}
use Rattle.ehci.specs.declared.reply.Answered.TheVariants.{Done, Pending, Cancelled, Failed}
use Rattle.ehci.specs.declared.reply.Given.{Given}
use Rattle.ehci.specs.declared.reply.Given.TheVariants as G
use Rattle.ehci.specs.Replies.{answered_number, event_number}
use Rattle.bench_port.specs.declared.numbers.Replied.{Replied}
use Rattle.ehci.specs.declared.reply.Answered.{Answered}
use Rattle.common.specs.declared.answer.Refusal.{Refusal}

-- no register's offset is as large as that of none
abbrev pub register_number : Option ℕ → ℕ
register_number None = 0x1_0000_0000
register_number (Some offset) = offset

abbrev pub given_number : Given → ℕ
given_number G.Nothing = 0
given_number (G.Slot k) = k
given_number (G.Address a) = a
given_number (G.Id id) = id
given_number (G.Length n retried) = n
given_number G.No = 0
given_number G.Yes = 1
given_number (G.Event e) = event_number e
given_number (G.Next read wait) = register_number read

-- what goes with the number of an answer
abbrev pub value_of : Result Answered Refusal → ℕ
value_of (Ok (Done given)) = given_number given
value_of (Ok Pending) = 0
value_of (Ok Cancelled) = 0
value_of (Ok (Failed token)) = token
value_of (Err r) = 0

-- and besides: the milliseconds before a register is read, the descriptors that were retried
abbrev pub given_other : Given → ℕ
given_other G.Nothing = 0
given_other (G.Slot k) = 0
given_other (G.Address a) = 0
given_other (G.Id id) = 0
given_other (G.Length n retried) = retried
given_other G.No = 0
given_other G.Yes = 0
given_other (G.Event e) = 0
given_other (G.Next read wait) = wait

abbrev pub other_of : Result Answered Refusal → ℕ
other_of (Ok (Done given)) = given_other given
other_of (Ok Pending) = 0
other_of (Ok Cancelled) = 0
other_of (Ok (Failed token)) = 0
other_of (Err r) = 0

abbrev pub write_at : List Write → ℕ → Write
write_at w i = slice_index_or w i (write_of 0 0)

abbrev pub offsets_of : List Write → List ℕ
offsets_of w =
    (write_at w 0).offset ∷ (write_at w 1).offset ∷ (write_at w 2).offset ∷ (write_at w 3).offset ∷ (write_at w 4).offset
    ∷ (write_at w 5).offset ∷ []

abbrev pub values_of : List Write → List ℕ
values_of w =
    (write_at w 0).value ∷ (write_at w 1).value ∷ (write_at w 2).value ∷ (write_at w 3).value ∷ (write_at w 4).value
    ∷ (write_at w 5).value ∷ []

-- ---- all of them

pub record Numbers : Type 0 where
  pub number : ℕ
  pub count : ℕ
  pub value : ℕ
  pub other : ℕ
  pub offsets : List ℕ
  pub values : List ℕ

abbrev pub numbers_of : Result Answered Refusal → Writes → Numbers
numbers_of answer writes =
    record {
      number = answered_number answer;
      count = writes.count;
      value = value_of answer;
      other = other_of answer;
      offsets = offsets_of writes.writes;
      values = values_of writes.writes;
    }

abbrev pub numbers_in : Replied → Numbers
numbers_in r =
    record {
      number = r.number;
      count = r.count;
      value = r.value;
      other = r.other;
      offsets = r.offsets;
      values = r.values;
    }

unfoldable pub pack_of : Rest → Result Answered Refusal → Writes → Replied
pack_of rest answer writes =
    record {
      rest = rest;
      number = answered_number answer;
      count = writes.count;
      value = value_of answer;
      other = other_of answer;
      offsets = offsets_of writes.writes;
      values = values_of writes.writes;
    }

-- 1, the rest as it was, no write
abbrev pub refused_numbers : Rest → Replied
refused_numbers rest = pack_of rest (Err InvalidParameter) no_writes
