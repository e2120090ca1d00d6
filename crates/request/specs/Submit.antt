-- Document 01: submit. Its checks in their order, then what it takes, links and writes.
use Rattle.std.specs.Prelude.{ℕ, ◌+◌, ◌*◌, ◌/◌, ◌%◌, ◌^◌, ◌<◌, ◌≤◌, Bool, true, false, not, ◌&&◌, ◌||◌, List, [], ◌∷◌, ◌++◌, length, take, drop, ◌==◌, nat_le, nat_lt, slice_index, Err, Ok, Result, ⊤}
use Rattle.register.specs.Bits.{with_bits}
use Rattle.register.specs.Writes.{no_writes, and_then}
use Rattle.register.specs.declared.writes.Writes.{Writes}
use Rattle.token.specs.Chunks.{need_of}
use Rattle.common.specs.declared.kinds.EndpointType.{EndpointType}
use Rattle.descriptor.specs.Setups.{setup_packet}
use Rattle.pool.specs.Chains.{no_chain}
use Rattle.pool.specs.Places.{list_if, mark_of, packed, places_from}
use Rattle.pool.specs.Transfers.{address_of, alternate_word}
use Rattle.pool.specs.Plain.{Chain}
use Rattle.pool.specs.Plain.{Transfer as TransferDeed}
use Rattle.pool.specs.declared.transfer.Transfer.{Transfer}
use Rattle.settings.specs.Settings.{memory_end, shared_address}
use Rattle.common.specs.Tests.{every}
use Rattle.slot.specs.Ids.{after_id}
use Rattle.state.specs.Slots.{slot_at}
use Rattle.state.specs.State.{with_owner}
use Rattle.state.specs.Plain.{Ehci}
use Rattle.common.specs.Answers.{Check, Verdict, passed, refused, first, refusal_number, settle}
use Rattle.pipe.specs.Endpoints.{direction_number, flag_of, kind_number, limit_at, with_endpoint}
use Rattle.common.specs.Kinds.{is_control, is_interrupt, is_isochronous}
use Rattle.controller.specs.Lent.{accepts_of, lengths}
use Rattle.controller.specs.Readers.{free_count, is_opened, is_uncollected}
use Rattle.common.specs.Rows.{put_at}
use Rattle.common.specs.declared.answer.Refusal.{Refusal}
use Rattle.common.specs.declared.answer.Refusal.TheVariants.{InvalidParameter, InvalidEndpoint, QueueFull, NotSupported, NoMemory, NotReady}
use Rattle.pipe.specs.declared.endpoints.Endpoint.{Endpoint}
use Rattle.pipe.specs.declared.endpoints.Endpoint.TheVariants.{Linked}
use Rattle.controller.specs.declared.lent.Readings.{Readings}
use Rattle.schedule.specs.Bell.{command_word}
use Rattle.schedule.specs.Links.{Links, attached_frames, attached_ring, head_address, links, slot_link, started_overlay}
use Rattle.request.specs.Plain.{Submitted}
use Rattle.request.specs.declared.judge.TransferRequest.{TransferRequest}
use Rattle.request.specs.Plain.{Taken}
use Rattle.token.specs.Overlay.{overlay_token}

abbrev pub submission_number : Result ℕ Refusal → ℕ
submission_number (Ok id) = 0
submission_number (Err r) = refusal_number r

-- ---- the checks

-- "address + length at most 2^32 (any address at length 0)"
unfoldable pub buffer_good : ℕ → ℕ → Bool
buffer_good address length = length == 0 || nat_le (address + length) memory_end

-- "control length at most 16384; setup direction bit equals the direction"; bytes 0 to 5 are six bytes
unfoldable pub control_good : TransferRequest → Bool
control_good t =
    every
    (nat_le t.length 16384
    ∷ (t.setup / 128 % 2 == direction_number t.direction)
    ∷ nat_lt t.setup (2 ^ 48)
    ∷ [])

-- asked only where
abbrev pub only_where : Bool → Bool → Bool
only_where true b = b
only_where false b = true

unfoldable pub ranges_good : TransferRequest → Bool
ranges_good t = buffer_good t.address t.length && only_where (is_control t.kind) (control_good t)

-- by the working limit of the slot
abbrev pub need_of_request : Ehci → ℕ → TransferRequest → ℕ
need_of_request s slot t = need_of t.kind t.length (limit_at s slot)

-- "Submit: slot open 3, running 8, nothing uncollected 4, isochronous 5, kind equals the slot's 3, ranges 1, room 6"
abbrev pub submit_checks : Ehci → ℕ → TransferRequest → List Check
submit_checks s slot t =
    (not (is_opened s slot), InvalidEndpoint)
    ∷ ((s.running == 0), NotReady)
    ∷ (is_uncollected s slot, QueueFull)
    ∷ (is_isochronous t.kind, NotSupported)
    ∷ (not (kind_number t.kind == (slot_at s slot).kind), InvalidEndpoint)
    ∷ (not (ranges_good t), InvalidParameter)
    ∷ (nat_lt (free_count s) (need_of_request s slot t), NoMemory)
    ∷ []

abbrev pub answer_of : Verdict → Result ⊤ Refusal
answer_of passed = Ok tt
answer_of (refused r) = Err r

unfoldable pub judge_of : Ehci → ℕ → TransferRequest → Result ⊤ Refusal
judge_of s slot t = answer_of (first (submit_checks s slot t))

-- ---- what an accepted request takes

-- "the lowest-numbered free descriptors, ascending"
unfoldable pub taken_of : List ℕ → ℕ → ℕ → ℕ → Taken
taken_of owner D n slot =
    record {
      places = packed (places_from 0 (take D owner) 0 n);
      owner = mark_of (take D owner) n (slot + 1) ++ drop D owner;
    }

unfoldable pub taken_for : Ehci → ℕ → TransferRequest → Taken
taken_for s slot t = taken_of s.owner s.settings.descriptors (need_of_request s slot t) slot

abbrev pub places_for : Ehci → ℕ → TransferRequest → List ℕ
places_for s slot t = places_from 0 (take s.settings.descriptors s.owner) 0 (need_of_request s slot t)

-- where its chain begins
abbrev pub first_in : Ehci → Taken → ℕ
first_in s taken = address_of s.settings.pool (slice_index taken.places.at 0)

abbrev pub transfer_of : Ehci → ℕ → TransferRequest → Transfer
transfer_of s slot t =
    record {
      kind = t.kind;
      direction = t.direction;
      address = t.address;
      length = t.length;
      limit = limit_at s slot;
      setup = s.settings.setups + 8 * slot;
      alternate = alternate_word t.kind t.direction (shared_address s.settings);
    }

abbrev pub chain_for : Ehci → ℕ → TransferRequest → Taken → Chain
chain_for s slot t taken =
    record {
      places = taken.places;
      base = s.settings.pool;
      deed = TransferDeed (transfer_of s slot t);
    }

abbrev pub id_at : Ehci → ℕ → ℕ
id_at s slot = (slot_at s slot).id

-- the toggle of its next packet
abbrev pub toggle_at : Ehci → ℕ → Bool
toggle_at s slot = flag_of (slot_at s slot).toggle

abbrev pub linked_with : Ehci → ℕ → TransferRequest → Endpoint
linked_with s slot t =
    Linked
    (record { kind = t.kind; size = (slot_at s slot).size; toggle = toggle_at s slot; next = after_id (id_at s slot) })
    (record { id = id_at s slot; direction = t.direction; length = t.length; cancelled = false })

unfoldable pub state_with : Ehci → List ℕ → ℕ → TransferRequest → Ehci
state_with s owner slot t = with_endpoint (with_owner s owner) slot (linked_with s slot t)

-- ---- what it writes

abbrev pub attached_by : Bool → List ℕ → List ℕ → ℕ → ℕ → Links
attached_by true heads frames slot link = attached_frames heads frames slot link
attached_by false heads frames slot link = links (attached_ring heads slot link) frames

-- the overlay (next the first descriptor, alternate 1, a token), then the head goes into its schedule
unfoldable pub linked_rows : List ℕ → List ℕ → EndpointType → ℕ → ℕ → ℕ → ℕ → Links
linked_rows heads frames kind slot link first token =
    attached_by (is_interrupt kind) (started_overlay heads slot first token) frames slot link

unfoldable pub setups_with : List ℕ → ℕ → TransferRequest → List ℕ
setups_with setups slot t =
    list_if (is_control t.kind) (put_at setups (8 * slot) (setup_packet t.setup t.length)) setups

-- "USBCMD gets its read value or 0x31, without 0x40"
abbrev pub writes_with : Readings → Writes
writes_with readings = and_then no_writes 0 (command_word (with_bits readings.command 0x31))

-- ---- the call

pub record Outcome : Type 0 where
  pub result : Submitted
  pub heads : List ℕ
  pub frames : List ℕ
  pub setups : List ℕ

abbrev pub submitted : Submitted → List ℕ → List ℕ → List ℕ → Outcome
submitted r heads frames setups = record { result = r; heads = heads; frames = frames; setups = setups }

abbrev pub rows_after : Submitted → Links → List ℕ → Outcome
rows_after r l setups = submitted r l.heads l.frames setups

unfoldable pub refused_submit : Ehci → Refusal → Submitted
refused_submit s r = record { answer = Err r; state = s; writes = no_writes; chain = no_chain }

unfoldable pub accepted_with : Ehci → Readings → ℕ → TransferRequest → Taken → Submitted
accepted_with s readings slot t taken =
    record {
      answer = Ok (id_at s slot);
      state = state_with s taken.owner slot t;
      writes = writes_with readings;
      chain = chain_for s slot t taken;
    }

-- what an accepted request can count on
pub record Settles (s : Ehci) (heads frames setups slot : ℕ) (t : TransferRequest) : Type 0 where
  pub slot_below : slot < 32
  pub head_within : 17 * (slot + 1) + 17 ≤ heads
  pub frames_within : 0 < frames
  pub setup_within : 8 * slot + 8 ≤ setups
  pub few : s.settings.descriptors ≤ 256
  pub limited : 1 ≤ limit_at s slot
  pub first_below : first_in s (taken_for s slot t) < 2 ^ 32
  pub head_below : head_address s slot < 2 ^ 32
  pub setup_below : s.settings.setups ≤ 2 ^ 32
  pub short : t.length < 2 ^ 32

unfoldable pub settled_submit : Ehci → List ℕ → List ℕ → List ℕ → Readings → ℕ → TransferRequest → Outcome
settled_submit s heads frames setups readings slot t =
    rows_after
    (accepted_with s readings slot t (taken_for s slot t))
    (linked_rows heads frames t.kind slot (slot_link s slot) (first_in s (taken_for s slot t)) (overlay_token t.kind (toggle_at s slot)))
    (setups_with setups slot t)

unfoldable pub submit_of : Ehci → ℕ → List ℕ → List ℕ → List ℕ → Readings → ℕ → TransferRequest → Outcome
submit_of s pool heads frames setups readings slot t =
    settle
    (first ((not (accepts_of s (lengths pool (length heads) (length frames) (length setups))), InvalidParameter) ∷ submit_checks s slot t))
    (λ r. submitted (refused_submit s r) heads frames setups)
    (settled_submit s heads frames setups readings slot t)
