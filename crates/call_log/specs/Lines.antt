-- The lines of a block.
use Rattle.std.specs.Prelude.{ℕ, List, [], ◌∷◌, ◌++◌, take, slice_index}
use Rattle.controller.specs.Readers.{free_count}
use Rattle.descriptor.specs.declared.qtd.QueueTransferDescriptor.{QueueTransferDescriptor}
use Rattle.state.specs.Plain.{Ehci}
use Rattle.text.specs.Text.{decimal, hex}
use Rattle.call_log.specs.declared.line.Line.{Line}
use Rattle.call_log.specs.declared.lines.Seen.{Seen}
use Rattle.call_log.specs.declared.line.Part.{Part}
use Rattle.call_log.specs.declared.line.Part.TheVariants.{Decimal, Word, Byte, Joined, Dash}

-- ---- what the code's parts and lines say

abbrev pub part_bytes : Part → List ℕ
part_bytes (Decimal n) = 32 ∷ decimal n
part_bytes (Word n) = 32 ∷ hex n 8
part_bytes (Byte n) = 32 ∷ hex n 2
part_bytes (Joined n) = hex n 2
part_bytes Dash = 32 ∷ 45 ∷ []

-- some parts, as a line
unfoldable pub said : List Part → List ℕ
said [] = []
said (part ∷ parts) = part_bytes part ++ said parts

unfoldable pub said_line : ℕ → List Part → List ℕ
said_line letter parts = letter ∷ (said parts ++ (10 ∷ []))

-- a line has the first so many parts of its row
unfoldable pub line_bytes : Line → List ℕ
line_bytes line = said_line line.letter (take line.count line.row)

-- ---- the lines: a letter, its parts each after a space, and the line's end

abbrev pub spaced : List (List ℕ) → List ℕ
spaced [] = []
spaced (part ∷ parts) = (32 ∷ part) ++ spaced parts

unfoldable pub line_of : ℕ → List (List ℕ) → List ℕ
line_of letter parts = letter ∷ (spaced parts ++ (10 ∷ []))

-- words as eight lower-case hex digits
abbrev pub word : ℕ → List ℕ
word value = hex value 8

-- P place and the record's 13 words
unfoldable pub record_line : ℕ → QueueTransferDescriptor → List ℕ
record_line place r =
    line_of 80
    (decimal place ∷ word r.next ∷ word r.alternate ∷ word r.token
    ∷ word (slice_index r.pages 0) ∷ word (slice_index r.pages 1) ∷ word (slice_index r.pages 2) ∷ word (slice_index r.pages 3) ∷ word (slice_index r.pages 4)
    ∷ word (slice_index r.upper 0) ∷ word (slice_index r.upper 1) ∷ word (slice_index r.upper 2) ∷ word (slice_index r.upper 3) ∷ word (slice_index r.upper 4)
    ∷ [])

-- H place word value
unfoldable pub head_line : ℕ → ℕ → ℕ → List ℕ
head_line place i value = line_of 72 (decimal place ∷ decimal i ∷ word value ∷ [])

-- F first last value
unfoldable pub frame_line : ℕ → ℕ → ℕ → List ℕ
frame_line first last value = line_of 70 (decimal first ∷ decimal last ∷ word value ∷ [])

-- S slot and 16 hex digits, the setup bytes in memory order
unfoldable pub setup_line : ℕ → List ℕ → List ℕ
setup_line slot bytes =
    line_of 83
    (decimal slot
    ∷ (hex (slice_index bytes 0) 2
    ++ (hex (slice_index bytes 1) 2
    ++ (hex (slice_index bytes 2) 2
    ++ (hex (slice_index bytes 3) 2 ++ (hex (slice_index bytes 4) 2 ++ (hex (slice_index bytes 5) 2 ++ (hex (slice_index bytes 6) 2 ++ hex (slice_index bytes 7) 2)))))))
    ∷ [])

-- U port state
unfoldable pub port_line : ℕ → ℕ → List ℕ
port_line port state = line_of 85 (decimal port ∷ decimal state ∷ [])

unfoldable pub shown_of : Ehci → Seen
shown_of s =
    record {
      running = s.running;
      flag = s.enabled;
      doorbell = s.doorbell;
      note = s.noted;
      unanswered = s.unanswered;
      pending = s.pending;
      masked = s.masked;
      free = free_count s;
      address = s.address;
    }

-- Q running flag doorbell note unanswered pending masked free next-address
unfoldable pub shown_line : Seen → List ℕ
shown_line x =
    line_of 81
    (decimal x.running ∷ decimal x.flag ∷ decimal x.doorbell ∷ decimal x.note ∷ decimal x.unanswered ∷ word x.pending
    ∷ word x.masked ∷ decimal x.free ∷ decimal x.address ∷ [])

abbrev pub state_line : Ehci → List ℕ
state_line s = shown_line (shown_of s)

-- W offset value
unfoldable pub write_line : ℕ → ℕ → List ℕ
write_line offset value = line_of 87 (hex offset 2 ∷ word value ∷ [])
