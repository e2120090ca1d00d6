-- Document 01: open endpoint, close, set address, set packet size; 02 order 6: clear-halt.
use Rattle.std.specs.Prelude.{ℕ, ◌+◌, ◌*◌, max, Bool, true, false, not, List, [], ◌∷◌, length, replicate, nat_le, Err, Ok, Result, ⊤}
use Rattle.common.specs.declared.kinds.EndpointType.{EndpointType}
use Rattle.descriptor.specs.Heads.{endpoint_head, words_of, with_address, with_packet_size}
use Rattle.common.specs.Tests.{every}
use Rattle.state.specs.Plain.{Ehci}
use Rattle.common.specs.declared.answer.Refusal.TheVariants.{InvalidParameter, SlotLimitReached, InvalidEndpoint, QueueFull, NotSupported}
use Rattle.pipe.specs.declared.endpoints.Endpoint.{Endpoint}
use Rattle.pipe.specs.declared.endpoints.Endpoint.TheVariants.{Closed, Idle}
use Rattle.pipe.specs.declared.endpoints.Pipe.{Pipe}
use Rattle.controller.specs.Plain.{Lengths}
use Rattle.common.specs.Answers.{Check, first, refusal_number, settle}
use Rattle.pipe.specs.Endpoints.{kind_number, pipe_of, with_endpoint, with_toggle}
use Rattle.slot.specs.Ranges.{size_good}
use Rattle.state.specs.Slots.{slot_at}
use Rattle.common.specs.Kinds.{is_isochronous}
use Rattle.controller.specs.Lent.{accepts_of, lengths}
use Rattle.controller.specs.Readers.{is_opened, is_uncollected}
use Rattle.opening.specs.Heads.{head_word, with_head_word}
use Rattle.common.specs.Rows.{put_at}
use Rattle.endpoint.specs.Plain.{Change}
use Rattle.endpoint.specs.Plain.{EndpointOpening}
use Rattle.endpoint.specs.Lowest.{lowest_closed}
use Rattle.state.specs.Ranges.{in_ranges}
use Rattle.common.specs.declared.answer.Refusal.{Refusal}

-- slot k's head is at place k + 1
abbrev pub with_head : List ℕ → ℕ → List ℕ → List ℕ
with_head heads k words = put_at heads (17 * (k + 1)) words

-- ---- open endpoint

abbrev pub opened_number : Result ℕ Refusal → ℕ
opened_number (Ok k) = 0
opened_number (Err r) = refusal_number r

-- what it leaves: its result and the heads
pub record OpenLeft : Type 0 where
  pub opening : EndpointOpening
  pub heads : List ℕ

abbrev pub open_left : EndpointOpening → List ℕ → OpenLeft
open_left opening heads = record { opening = opening; heads = heads }

-- "address 0..=127, number 0..=15, packet size 1..=1024", and of a bulk or interrupt endpoint not above C
unfoldable pub fields_good : ℕ → EndpointType → ℕ → ℕ → ℕ → Bool
fields_good limit kind address number packet =
    every (nat_le address 127 ∷ nat_le number 15 ∷ size_good limit (kind_number kind) packet ∷ [])

abbrev pub lowest_slot : Ehci → ℕ
lowest_slot s = lowest_closed s.phases s.settings.endpoints

-- "5, then address .. (1), then 2"
unfoldable pub open_checks : Ehci → Lengths → EndpointType → Bool → List Check
open_checks s lent kind good =
    (not (accepts_of s lent), InvalidParameter)
    ∷ (is_isochronous kind, NotSupported)
    ∷ (not good, InvalidParameter)
    ∷ (nat_le s.settings.endpoints (lowest_slot s), SlotLimitReached)
    ∷ []

unfoldable pub chosen_of : Ehci → Lengths → EndpointType → Bool → Result ℕ Refusal
chosen_of s lent kind good = settle (first (open_checks s lent kind good)) Err (Ok (lowest_slot s))

-- "Ids per slot start at 1 when it opens"; 02 order 6: "a toggle bit, 0 at opening"
abbrev pub new_endpoint : EndpointType → ℕ → Endpoint
new_endpoint kind packet = Idle (record { kind = kind; size = packet; toggle = false; next = 1 })

unfoldable pub open_endpoint_of : Ehci → ℕ → List ℕ → ℕ → ℕ → EndpointType → ℕ → ℕ → ℕ → OpenLeft
open_endpoint_of s pool heads frames setups kind address number packet =
    settle (first (open_checks s (lengths pool (length heads) frames setups) kind (fields_good s.settings.limit kind address number packet)))
    (λ r. open_left (record { answer = Err r; state = s }) heads)
    (open_left (record { answer = Ok (lowest_slot s); state = with_endpoint s (lowest_slot s) (new_endpoint kind packet) })
    (with_head heads (lowest_slot s) (words_of (endpoint_head kind address number packet))))

-- ---- close, set address, set packet size

pub record ChangeLeft : Type 0 where
  pub change : Change
  pub heads : List ℕ

abbrev pub change_left : Change → List ℕ → ChangeLeft
change_left change heads = record { change = change; heads = heads }

-- "3, 4, 1": the last where a value is out of its range
unfoldable pub slot_checks : Ehci → Lengths → ℕ → Bool → List Check
slot_checks s lent k good =
    (not (accepts_of s lent), InvalidParameter)
    ∷ (not (is_opened s k), InvalidEndpoint)
    ∷ (is_uncollected s k, QueueFull)
    ∷ (not good, InvalidParameter)
    ∷ []

unfoldable pub slot_verdict : Ehci → Lengths → ℕ → Bool → Result ⊤ Refusal
slot_verdict s lent k good = settle (first (slot_checks s lent k good)) Err (Ok tt)

-- a call on slot k that leaves a state and heads where it is not refused
abbrev pub change_of : Ehci → ℕ → List ℕ → ℕ → ℕ → ℕ → Bool → Ehci → List ℕ → ChangeLeft
change_of s pool heads frames setups k good s' heads' =
    settle (first (slot_checks s (lengths pool (length heads) frames setups) k good))
    (λ r. change_left (record { answer = Err r; state = s }) heads)
    (change_left (record { answer = Ok tt; state = s' }) heads')

-- "Close zeroes the head"
unfoldable pub close_of : Ehci → ℕ → List ℕ → ℕ → ℕ → ℕ → ChangeLeft
close_of s pool heads frames setups k =
    change_of s pool heads frames setups k true (with_endpoint s k Closed) (with_head heads k (replicate 17 0))

-- the characteristics are a head's word 1; "set address (0..=127)"
unfoldable pub set_address_of : Ehci → ℕ → List ℕ → ℕ → ℕ → ℕ → ℕ → ChangeLeft
set_address_of s pool heads frames setups k address =
    change_of s pool heads frames setups k (nat_le address 127) s
    (with_head_word heads (k + 1) 1 (with_address (head_word heads (k + 1) 1) address))

-- "Set packet size takes a byte, raises it to 8": it is judged after the raise
abbrev pub raised_good : Ehci → ℕ → ℕ → Bool
raised_good s k size = size_good s.settings.limit (slot_at s k).kind (max size 8)

abbrev pub with_size : Pipe → ℕ → Pipe
with_size p size = record { kind = p.kind; size = size; toggle = p.toggle; next = p.next }

unfoldable pub set_packet_size_of : Ehci → ℕ → List ℕ → ℕ → ℕ → ℕ → ℕ → ChangeLeft
set_packet_size_of s pool heads frames setups k size =
    change_of s pool heads frames setups k (raised_good s k size)
    (with_endpoint s k (Idle (with_size (pipe_of (slot_at s k)) (max size 8))))
    (with_head_word heads (k + 1) 1 (with_packet_size (head_word heads (k + 1) 1) size))

-- ---- clear-halt, which is lent the slots alone

-- "clear-halt answers 3, then 4"
abbrev pub clear_checks : Ehci → ℕ → List Check
clear_checks s k = (not (in_ranges s), InvalidParameter) ∷ (not (is_opened s k), InvalidEndpoint) ∷ (is_uncollected s k, QueueFull) ∷ []

-- "A clear-halt call sets it to 0"
unfoldable pub clear_halt_of : Ehci → ℕ → Change
clear_halt_of s k =
    settle (first (clear_checks s k))
    (λ r. record { answer = Err r; state = s })
    (record { answer = Ok tt; state = with_endpoint s k (Idle (with_toggle (pipe_of (slot_at s k)) false)) })
