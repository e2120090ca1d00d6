-- Changed is against the words before the call: the lines of what changed, all ascending.
use Rattle.std.specs.Prelude.{ℕ, zero, suc, ◌+◌, ◌*◌, ◌/◌, ◌%◌, min, Bool, cond, not, ◌&&◌, ◌||◌, List, [], ◌∷◌, length, ◌==◌, nat_lt, slice_index, slice_index_or}
use Rattle.descriptor.specs.declared.qtd.QueueTransferDescriptor.{QueueTransferDescriptor}
use Rattle.pool.specs.Chains.{blank}
use Rattle.register.specs.declared.writes.Write.{Write}
use Rattle.register.specs.declared.writes.Writes.{Writes}
use Rattle.register.specs.Writes.{list_of, write_of}
use Rattle.text.specs.Numbers.{number_at}
use Rattle.text.specs.Text.{lines_to, only_if}
use Rattle.call_log.specs.Lines.{frame_line, head_line, port_line, record_line, setup_line, write_line}

-- `H place word value` for each head word that changed
unfoldable pub head_change : ℕ → ℕ → ℕ → List ℕ
head_change i before after = only_if (not (before == after)) (head_line (i / 17) (i % 17) after)

abbrev pub head_lines : List ℕ → List ℕ → List ℕ
head_lines before after = lines_to (λ i. head_change i (slice_index before i) (slice_index after i)) (length after)

-- `U port state` for each port whose state changed; an accepted opening shows every port
unfoldable pub port_change : Bool → ℕ → ℕ → ℕ → List ℕ
port_change opening i before after = only_if (opening || not (before == after)) (port_line (i + 1) after)

-- the ports are the controller's own
abbrev pub port_lines : Bool → ℕ → List ℕ → List ℕ → List ℕ
port_lines opening ports before after =
    lines_to (λ i. port_change opening i (slice_index before i) (slice_index after i)) (min ports (length after))

-- ---- `P place` and the record's 13 words for each descriptor record that changed

unfoldable pub same_five : List ℕ → List ℕ → Bool
same_five a b = slice_index a 0 == slice_index b 0 && slice_index a 1 == slice_index b 1 && slice_index a 2 == slice_index b 2 && slice_index a 3 == slice_index b 3 && slice_index a 4 == slice_index b 4

unfoldable pub same_record : QueueTransferDescriptor → QueueTransferDescriptor → Bool
same_record a b = a.next == b.next && a.alternate == b.alternate && a.token == b.token && same_five a.pages b.pages && same_five a.upper b.upper

unfoldable pub record_change : ℕ → QueueTransferDescriptor → QueueTransferDescriptor → List ℕ
record_change place before after = only_if (not (same_record before after)) (record_line place after)

abbrev pub record_lines : List QueueTransferDescriptor → List QueueTransferDescriptor → List ℕ
record_lines before after = lines_to (λ i. record_change i (slice_index_or before i blank) (slice_index_or after i blank)) 257

-- ---- `F first last value` for each longest run of changed frame entries with one value

abbrev pub changed : List ℕ → List ℕ → ℕ → Bool
changed before after i = not (slice_index before i == slice_index after i)

-- entry i + 1 is of the run of entry i: both changed, to one value
unfoldable pub goes_further : List ℕ → List ℕ → ℕ → Bool
goes_further before after i =
    nat_lt (i + 1) (length after) && (changed before after i && changed before after (i + 1) && slice_index after i == slice_index after (i + 1))

-- where the run of an entry begins
unfoldable pub first_of : List ℕ → List ℕ → ℕ → ℕ
first_of before after zero = 0
first_of before after (suc i) = cond (goes_further before after i) (first_of before after i) (i + 1)

abbrev pub run_ends : List ℕ → List ℕ → ℕ → Bool → Bool
run_ends before after i on = changed before after i && not on

unfoldable pub frame_change : List ℕ → List ℕ → ℕ → List ℕ
frame_change before after i =
    only_if (run_ends before after i (goes_further before after i)) (frame_line (first_of before after i) i (slice_index after i))

abbrev pub frame_lines : List ℕ → List ℕ → List ℕ
frame_lines before after = lines_to (frame_change before after) (length after)

-- ---- `S slot` and 16 hex digits for each setup packet that changed

-- eight bytes say one number and no other eight do
unfoldable pub same_eight : List ℕ → List ℕ → ℕ → Bool
same_eight a b p = number_at a p 8 == number_at b p 8

unfoldable pub setup_change : List ℕ → List ℕ → ℕ → List ℕ
setup_change before after slot =
    only_if (not (same_eight before after (8 * slot)))
    (setup_line slot
    (slice_index after (8 * slot) ∷ slice_index after (8 * slot + 1) ∷ slice_index after (8 * slot + 2) ∷ slice_index after (8 * slot + 3)
    ∷ slice_index after (8 * slot + 4) ∷ slice_index after (8 * slot + 5) ∷ slice_index after (8 * slot + 6) ∷ slice_index after (8 * slot + 7) ∷ []))

abbrev pub setup_lines : ℕ → List ℕ → List ℕ → List ℕ
setup_lines slots before after = lines_to (setup_change before after) slots

-- ---- `W offset value` for each register write in order

abbrev pub write_at : Writes → ℕ → Write
write_at w i = slice_index_or w.writes i (write_of 0 0)

abbrev pub write_lines : Writes → List ℕ
write_lines w = lines_to (λ i. write_line (write_at w i).offset (write_at w i).value) (length (list_of w))
