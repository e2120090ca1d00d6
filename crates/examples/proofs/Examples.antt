-- 01's ★ examples hold, every row.
use Prim.Native.Nat.{ℕ}
use mathlib.Core.Path.{◌≡◌, refl, ap}
use mathlib.Core.Bool.{Bool, true, false}
use mathlib.Core.List.{List, [], ◌∷◌, ◌++◌, map}
use lib.Dec.{eqb, leb}
use lib.ListN.{get_or, length, replicate}
use Rattle.register.specs.Bits.{any_of, only_bits, with_bits, without_bits}
use Rattle.register.specs.Writes.{and_then, no_writes}
use Rattle.token.specs.Overlay.{overlay_token}
use Rattle.token.specs.Chunks.{chunk_count, need_of}
use Rattle.token.specs.Tokens.{token_of}
use Rattle.descriptor.specs.declared.qtd.QueueTransferDescriptor.{QueueTransferDescriptor}
use Rattle.descriptor.specs.Descriptors.{new_qtd, terminated, with_next}
use Rattle.descriptor.specs.Heads.{endpoint_head, ring_head}
use Rattle.descriptor.specs.Slots.{page_slots}
use Rattle.pool.specs.Chains.{blank, fill_of, filled_from, no_chain}
use Rattle.pool.specs.Places.{list_of, mark_of, packed, places_from}
use Rattle.pool.specs.Transfers.{bare_at, chunk_qtd, record_at}
use Rattle.settings.specs.Settings.{apart_areas, area_good, each_good, no_overlap, numbers_good, settings_good}
use Rattle.slot.specs.declared.slot.Slot.{Slot}
use Rattle.slot.specs.Ranges.{boundary_good, closed_good, idle_good, linked_good, no_request, open_kind, phase_good, size_good, size_kept, slot_good, toggle_kept, unlinking_good}
use Rattle.state.specs.Plain.{Ehci}
use Rattle.state.specs.Ranges.{doorbell_good, in_ranges, interrupt_good, largest, machine_good, owner_good, rest_good, slots_good}
use Rattle.state.specs.Slots.{slot_at, with_slot}
use Rattle.state.specs.State.{with_bell, with_boundaries, with_bring_up, with_interrupt, with_owner}
use Rattle.pipe.specs.Endpoints.{bare_slot, decoded, endpoint_at, with_endpoint}
use Rattle.opening.specs.Opening.{accepted_opening, fresh_state, open_of, opened_heads, rows_are_fit}
use Rattle.common.specs.Rows.{put_at}
use Rattle.controller.specs.Lent.{accepts_of, lengths}
use Rattle.controller.specs.Readers.{count_zero, free_count}
use Rattle.schedule.specs.Bell.{advanced_of, fallen_from, fallen_one, ring_of, ring_word, unlinked_of}
use Rattle.schedule.specs.Links.{attached_ring, detach_of, precedes_one, predecessor_of, search_from, started_overlay}
use Rattle.endpoint.specs.Lowest.{closed_from}
use Rattle.endpoint.specs.Calls.{fields_good, open_checks, open_endpoint_of}
use Rattle.request.specs.Submit.{accepted_with, buffer_good, linked_rows, ranges_good, refused_submit, settled_submit, setups_with, state_with, submit_of, taken_for, taken_of as taken_places}
use Rattle.slot.specs.Ids.{after_id}
use Rattle.collection.specs.Unlinks.{bounded_of, unlink_of, waiting_of}
use Rattle.collection.specs.Calls.{cancel_of, collect_of, finish_of, unlinking_of}
use Rattle.collection.specs.Answers.{outcome_of}
use Rattle.collection.specs.Examples.{no_frames, one_request, ring_of_one}
use Rattle.interrupt.specs.Interrupts.{acknowledge_of, acknowledged_state, counted_of, drain_of, enable_of, noted_after, cleared_of}
use Rattle.bring_up.specs.BringUp.{any_uncollected, moved_on, onward_of, ready, stage_of, start_of, step_of}
use Rattle.ehci.specs.declared.call.Call.TheVariants.{BringUpStep, Cancel, Enable, StartBringUp}
use Rattle.ehci.specs.Replies.{brought_reply, replied, settled_reply}
use Rattle.ehci.specs.Decides.{acknowledge_decided, asks_of, cancel_decided, decide_of, drain_decided, open_decided, submit_decided}
use Rattle.ehci.specs.Door.{apply_of}
use Rattle.examples.specs.Examples.{Row, Kept, acknowledge, acknowledged, after, answer_row, bell_row, brought_up, drain, drain_row, drained, just_opened, open_bulk, reading, reply_to, small, starred, submit_out, submit_row, two_unlinks, unlink_row, kept}

-- ---- the states that the calls come to

-- bring-up; pending, masked, noted, doorbell, unanswered; the owners of the two places; the two slots
state_of : ℕ → ℕ → ℕ → List ℕ → List ℕ → Slot → Slot → Ehci
state_of running step enabled bell owner a b =
    record {
      settings = small;
      running = running;
      step = step;
      waited = 0;
      address = 1;
      enabled = enabled;
      pending = get_or bell 0 0;
      masked = get_or bell 1 0;
      noted = get_or bell 2 0;
      doorbell = get_or bell 3 0;
      unanswered = get_or bell 4 0;
      owner = owner ++ replicate 254 0;
      phases = a.phase ∷ b.phase ∷ replicate 30 0;
      kinds = a.kind ∷ b.kind ∷ replicate 30 0;
      sizes = a.size ∷ b.size ∷ replicate 30 0;
      toggles = a.toggle ∷ b.toggle ∷ replicate 30 0;
      ids = a.id ∷ b.id ∷ replicate 30 1;
      requests = a.request ∷ b.request ∷ replicate 30 0;
      directions = a.direction ∷ b.direction ∷ replicate 30 0;
      lengths = a.length ∷ b.length ∷ replicate 30 0;
      cancels = a.cancel ∷ b.cancel ∷ replicate 30 0;
      boundaries = a.boundary ∷ b.boundary ∷ replicate 30 0;
    }

-- closed; idle; with request 1, linked; the same, cancelled, with a boundary
abbrev closed : Slot
closed = bare_slot 0 0 0 0 1

abbrev idle : Slot
idle = bare_slot 1 2 512 0 1

abbrev asked : ℕ → ℕ → ℕ → Slot
asked phase cancel boundary =
    record { phase = phase; kind = 2; size = 512; toggle = 0; id = 2; request = 1; direction = 0; length = 512; cancel = cancel; boundary = boundary }

abbrev linked : Slot
linked = asked 2 0 0

abbrev waits : ℕ → Slot
waits boundary = asked 3 1 boundary

abbrev no_bell : List ℕ
no_bell = replicate 5 0

-- on the way up, no slot is open
abbrev rising : ℕ → ℕ → ℕ → Ehci
rising running step enabled = state_of running step enabled no_bell (0 ∷ 0 ∷ []) closed closed

rising_good : (running step enabled : ℕ) → leb running 1 ≡ true → leb step 6 ≡ true → leb enabled 1 ≡ true → in_ranges (rising running step enabled) ≡ true
unfolding state_of in_ranges rest_good machine_good interrupt_good doorbell_good owner_good largest slots_good slot_good phase_good closed_good idle_good linked_good unlinking_good boundary_good open_kind no_request size_good size_kept toggle_kept settings_good numbers_good each_good no_overlap area_good apart_areas slot_at without_bits
rising_good running step enabled e f g = rw (e, f, g)

-- running, interrupts on
abbrev used : List ℕ → List ℕ → Slot → Slot → Ehci
used bell owner a b = state_of 1 0 1 bell owner a b

abbrev one_open : Ehci
one_open = used no_bell (0 ∷ 0 ∷ []) idle closed

abbrev two_open : Ehci
two_open = used no_bell (0 ∷ 0 ∷ []) idle idle

-- slot 0 has had one request, of an odd number of packets
abbrev one_odd : Ehci
one_odd = used no_bell (0 ∷ 0 ∷ []) (bare_slot 1 2 512 1 2) idle

abbrev one_linked : Ehci
one_linked = used no_bell (1 ∷ 0 ∷ []) linked idle

abbrev two_linked : Ehci
two_linked = used no_bell (1 ∷ 2 ∷ []) linked linked

abbrev one_waits : Ehci
one_waits = used (0 ∷ 0 ∷ 0 ∷ 1 ∷ 1 ∷ []) (1 ∷ 2 ∷ []) (waits 1) linked

abbrev two_wait : Ehci
two_wait = used (0 ∷ 0 ∷ 0 ∷ 1 ∷ 2 ∷ []) (1 ∷ 2 ∷ []) (waits 1) (waits 2)

abbrev heard : Ehci
heard = used (0x24 ∷ 0x24 ∷ 1 ∷ 1 ∷ 2 ∷ []) (1 ∷ 2 ∷ []) (waits 1) (waits 2)

abbrev counted : Ehci
counted = used (0x20 ∷ 0x24 ∷ 0 ∷ 1 ∷ 1 ∷ []) (1 ∷ 2 ∷ []) (waits 0) (waits 1)

abbrev ways : List Ehci
ways = one_open ∷ two_open ∷ one_linked ∷ two_linked ∷ one_waits ∷ two_wait ∷ heard ∷ counted ∷ one_odd ∷ []

-- they are in their ranges
ways_good : map in_ranges ways ≡ replicate 9 true
unfolding state_of in_ranges rest_good machine_good interrupt_good doorbell_good owner_good largest slots_good slot_good phase_good closed_good idle_good linked_good unlinking_good boundary_good open_kind no_request size_good size_kept toggle_kept settings_good numbers_good each_good no_overlap area_good apart_areas slot_at without_bits
ways_good = refl

good : (k : ℕ) → get_or (map in_ranges ways) k true ≡ get_or (replicate 9 true) k true
good k = ap (λ (l : List Bool). get_or l k true) ways_good

one_open_good : in_ranges one_open ≡ true
one_open_good = good 0

two_open_good : in_ranges two_open ≡ true
two_open_good = good 1

one_linked_good : in_ranges one_linked ≡ true
one_linked_good = good 2

two_linked_good : in_ranges two_linked ≡ true
two_linked_good = good 3

one_waits_good : in_ranges one_waits ≡ true
one_waits_good = good 4

two_wait_good : in_ranges two_wait ≡ true
two_wait_good = good 5

heard_good : in_ranges heard ≡ true
heard_good = good 6

counted_good : in_ranges counted ≡ true
counted_good = good 7

one_odd_good : in_ranges one_odd ≡ true
one_odd_good = good 8

-- ---- the rows

-- a head: its link, characteristics, and the overlay's next
abbrev head_of : ℕ → ℕ → ℕ → List ℕ
head_of link characteristics next = link ∷ characteristics ∷ 0x40000000 ∷ 0 ∷ next ∷ 1 ∷ replicate 11 0

-- the ring head's link, and the two heads
abbrev heads_of : ℕ → List ℕ → List ℕ → List ℕ
heads_of link a b = head_of link 0x408000 1 ++ (a ++ b)

-- a bulk Out chunk of 512 bytes
abbrev chunk : ℕ → QueueTransferDescriptor
chunk address =
    record { next = 1; alternate = 1; token = 0x02008C80; pages = address ∷ 0 ∷ 0 ∷ 0 ∷ 0 ∷ []; upper = replicate 5 0 }

abbrev shared : QueueTransferDescriptor
shared = record { next = 1; alternate = 1; token = 0; pages = replicate 5 0; upper = replicate 5 0 }

-- the shared descriptor, the frames and the setup packets are never written here
with_rows : Ehci → List QueueTransferDescriptor → List ℕ → Kept
with_rows s pool heads = kept s (pool ++ shared ∷ []) heads (replicate 1024 1) (replicate 16 0)

abbrev fresh : Ehci → Kept
fresh s = with_rows s (blank ∷ blank ∷ []) (heads_of 0x200002 (replicate 17 0) (replicate 17 0))

abbrev opened_one : Kept
opened_one = with_rows one_open (blank ∷ blank ∷ []) (heads_of 0x200002 (head_of 1 0xF2002105 1) (replicate 17 0))

abbrev opened_two : Kept
opened_two = with_rows two_open (blank ∷ blank ∷ []) (heads_of 0x200002 (head_of 1 0xF2002105 1) (head_of 1 0xF2002205 1))

abbrev linked_one : Kept
linked_one = with_rows one_linked (chunk 0x500000 ∷ blank ∷ []) (heads_of 0x200082 (head_of 0x200002 0xF2002105 0x100000) (head_of 1 0xF2002205 1))

abbrev linked_two : Kept
linked_two = with_rows two_linked (chunk 0x500000 ∷ chunk 0x501000 ∷ []) (heads_of 0x200102 (head_of 0x200002 0xF2002105 0x100000) (head_of 0x200082 0xF2002205 0x100040))

abbrev unlinked_one : Kept
unlinked_one = with_rows one_waits (chunk 0x500000 ∷ chunk 0x501000 ∷ []) (heads_of 0x200102 (head_of 0x200002 0xF2002105 0x100000) (head_of 0x200002 0xF2002205 0x100040))

-- both heads are out of the ring
abbrev apart : Ehci → Kept
apart s = with_rows s (chunk 0x500000 ∷ chunk 0x501000 ∷ []) (heads_of 0x200002 (head_of 0x200002 0xF2002105 0x100000) (head_of 0x200002 0xF2002205 0x100040))

-- ---- one call

small_good : settings_good small ≡ true
unfolding settings_good numbers_good each_good no_overlap area_good apart_areas
small_good = refl

opens : just_opened ≡ fresh (rising 0 0 0)
unfolding just_opened open_of rows_are_fit accepted_opening fresh_state opened_heads ring_head terminated with_rows state_of
opens = rw small_good

starts : after (fresh (rising 0 0 0)) StartBringUp ≡ fresh (rising 0 1 0)
unfolding after apply_of decide_of asks_of rows_are_fit replied fill_of filled_from no_chain packed list_of brought_reply start_of any_uncollected endpoint_at decoded slot_at with_bring_up with_rows state_of
starts = rw (rising_good 0 0 0 refl refl refl)

-- a step whose reading is ready
steps : (k v : ℕ) → leb k 6 ≡ true → eqb k 0 ≡ false → ready (stage_of k) v ≡ true
    → after (fresh (rising 0 k 0)) (BringUpStep v) ≡ fresh (rising (moved_on (stage_of k)).running (moved_on (stage_of k)).step 0)
unfolding after apply_of decide_of asks_of rows_are_fit replied fill_of filled_from no_chain packed list_of brought_reply step_of onward_of with_bring_up with_rows state_of
steps k v e f g = rw (rising_good 0 k 0 refl e refl, f, g)

enables : after (fresh (rising 1 0 0)) Enable ≡ fresh (rising 1 0 1)
unfolding after apply_of decide_of asks_of rows_are_fit replied fill_of filled_from no_chain packed list_of settled_reply enable_of with_interrupt with_rows state_of
enables = rw (rising_good 1 0 0 refl refl refl)

opens_one : after (fresh (rising 1 0 1)) (open_bulk 5 1) ≡ opened_one
unfolding after apply_of decide_of asks_of rows_are_fit replied fill_of filled_from no_chain packed list_of open_decided open_endpoint_of open_checks accepts_of fields_good size_good closed_from with_endpoint with_slot endpoint_head terminated put_at with_rows state_of
opens_one = rw (rising_good 1 0 1 refl refl refl)

opens_two : after opened_one (open_bulk 5 2) ≡ opened_two
unfolding after apply_of decide_of asks_of rows_are_fit replied fill_of filled_from no_chain packed list_of open_decided open_endpoint_of open_checks accepts_of fields_good size_good closed_from with_endpoint with_slot endpoint_head terminated put_at with_rows state_of
opens_two = rw one_open_good

links_one : after opened_two (submit_out 0 0x500000 512) ≡ linked_one
unfolding after apply_of decide_of asks_of rows_are_fit replied fill_of filled_from no_chain packed list_of submit_decided submit_of accepts_of endpoint_at decoded slot_at ranges_good buffer_good free_count count_zero need_of chunk_count settled_submit accepted_with taken_for taken_places places_from mark_of state_with after_id with_owner with_endpoint with_slot linked_rows started_overlay overlay_token attached_ring setups_with record_at bare_at chunk_qtd new_qtd token_of page_slots with_next with_rows state_of
links_one = rw two_open_good

-- the second read begins with DATA1
links_odd : get_or (after (with_rows one_odd (blank ∷ blank ∷ []) (heads_of 0x200002 (head_of 1 0xF2002105 1) (head_of 1 0xF2002205 1))) (submit_out 0 0x500000 512)).heads 23 0 ≡ 0x80000000
unfolding after apply_of decide_of asks_of rows_are_fit replied fill_of filled_from no_chain packed list_of submit_decided submit_of accepts_of endpoint_at decoded slot_at ranges_good buffer_good free_count count_zero need_of chunk_count settled_submit accepted_with taken_for taken_places places_from mark_of state_with after_id with_owner with_endpoint with_slot linked_rows started_overlay overlay_token attached_ring setups_with record_at bare_at chunk_qtd new_qtd token_of page_slots with_next with_rows state_of
links_odd = rw one_odd_good

links_two : after linked_one (submit_out 1 0x501000 512) ≡ linked_two
unfolding after apply_of decide_of asks_of rows_are_fit replied fill_of filled_from no_chain packed list_of submit_decided submit_of accepts_of endpoint_at decoded slot_at ranges_good buffer_good free_count count_zero need_of chunk_count settled_submit accepted_with taken_for taken_places places_from mark_of state_with after_id with_owner with_endpoint with_slot linked_rows started_overlay overlay_token attached_ring setups_with record_at bare_at chunk_qtd new_qtd token_of page_slots with_next with_rows state_of
links_two = rw one_linked_good

unlinks_one : after linked_two (Cancel 0 1 (reading 0x80031)) ≡ unlinked_one
unfolding after apply_of decide_of asks_of rows_are_fit replied fill_of filled_from no_chain packed list_of cancel_decided cancel_of accepts_of endpoint_at decoded slot_at unlink_of waiting_of bounded_of unlinked_of ring_of detach_of predecessor_of search_from precedes_one with_endpoint with_slot with_bell with_rows state_of
unlinks_one = rw two_linked_good

unlinks_two : after unlinked_one (Cancel 1 1 (reading 0x80071)) ≡ apart two_wait
unfolding after apply_of decide_of asks_of rows_are_fit replied fill_of filled_from no_chain packed list_of cancel_decided cancel_of accepts_of endpoint_at decoded slot_at unlink_of waiting_of bounded_of unlinked_of ring_of detach_of predecessor_of search_from precedes_one with_endpoint with_slot with_bell with_rows state_of
unlinks_two = rw one_waits_good

hears : after (apart two_wait) acknowledge ≡ apart heard
unfolding after apply_of decide_of asks_of rows_are_fit replied fill_of filled_from no_chain packed list_of acknowledge_decided acknowledge_of only_bits with_bits any_of acknowledged_state noted_after with_interrupt with_bell with_rows state_of
hears = rw two_wait_good

counts : after (apart heard) drain ≡ apart counted
unfolding after apply_of decide_of asks_of rows_are_fit replied fill_of filled_from no_chain packed list_of drain_decided drain_of any_of without_bits counted_of cleared_of with_interrupt with_bell with_boundaries advanced_of ring_of fallen_from fallen_one with_rows state_of
counts = rw heard_good

-- ---- the calls one after another

brought_up_lem : brought_up ≡ opened_one
unfolding brought_up any_of
brought_up_lem =
    rw (
      opens,
      starts,
      steps 1 0x80000 refl refl refl,
      steps 2 0x1000 refl refl refl,
      steps 3 0x80000 refl refl refl,
      steps 4 0x80000 refl refl refl,
      steps 5 0x80000 refl refl refl,
      steps 6 0 refl refl refl,
      enables,
      opens_one,
    )

two_unlinks_lem : two_unlinks ≡ apart two_wait
unfolding two_unlinks
two_unlinks_lem = rw (brought_up_lem, opens_two, links_one, links_two, unlinks_one, unlinks_two)

acknowledged_is : acknowledged ≡ apart heard
unfolding acknowledged
acknowledged_is = rw (two_unlinks_lem, hears)

drained_is : drained ≡ apart counted
unfolding drained
drained_is = rw (acknowledged_is, counts)

-- ---- the rows that take a controller

last_byte : submit_row 0xFFFFFFFF 1 ≡ 0 ∷ 1 ∷ []
unfolding reply_to apply_of decide_of asks_of rows_are_fit replied submit_decided submit_of accepts_of endpoint_at decoded slot_at ranges_good buffer_good free_count count_zero need_of chunk_count settled_submit accepted_with with_rows state_of
last_byte = rw brought_up_lem (rw one_open_good)

past_end : submit_row 0xFFFFFFFF 2 ≡ 1 ∷ []
unfolding reply_to apply_of decide_of asks_of rows_are_fit replied submit_decided submit_of accepts_of endpoint_at decoded slot_at ranges_good buffer_good free_count count_zero need_of chunk_count refused_submit with_rows state_of
past_end = rw brought_up_lem (rw one_open_good)

fits : accepts_of (one_request 3 3 0 16380 0) (lengths 5 (length ring_of_one) (length no_frames) 16) ≡ true
unfolding accepts_of rows_are_fit in_ranges rest_good machine_good interrupt_good doorbell_good owner_good largest slots_good slot_good phase_good closed_good idle_good linked_good unlinking_good boundary_good open_kind no_request size_good size_kept toggle_kept settings_good numbers_good each_good no_overlap area_good apart_areas slot_at without_bits
fits = refl

pending : unlink_row 4 ≡ 8 ∷ 0 ∷ 9 ∷ []
unfolding collect_of unlinking_of finish_of outcome_of endpoint_at decoded slot_at
pending = rw fits

passed : unlink_row 5 ≡ 9 ∷ 1 ∷ 0 ∷ []
unfolding collect_of unlinking_of finish_of outcome_of endpoint_at decoded slot_at
passed = rw fits

bell_up : bell_row two_unlinks.state ≡ 0 ∷ 2 ∷ 1 ∷ []
unfolding with_rows state_of
bell_up = rw two_unlinks_lem

yes : answer_row (reply_to two_unlinks acknowledge) ≡ 0 ∷ 1 ∷ []
unfolding reply_to apply_of decide_of asks_of rows_are_fit replied acknowledge_decided acknowledge_of only_bits with_rows state_of
yes = rw two_unlinks_lem (rw two_wait_good)

port_change_lem : drain_row (reply_to acknowledged drain) ≡ 0 ∷ 1 ∷ 0 ∷ 1 ∷ 1 ∷ 1 ∷ 1 ∷ []
unfolding reply_to apply_of decide_of asks_of rows_are_fit replied drain_decided drain_of any_of without_bits counted_of cleared_of with_interrupt with_bell with_boundaries advanced_of ring_of fallen_from fallen_one no_writes and_then ring_word with_bits with_rows state_of
port_change_lem = rw acknowledged_is (rw heard_good)

activity : drain_row (reply_to drained drain) ≡ 0 ∷ 2 ∷ 1 ∷ 1 ∷ 1 ∷ 1 ∷ 0 ∷ []
unfolding reply_to apply_of decide_of asks_of rows_are_fit replied drain_decided drain_of any_of without_bits counted_of cleared_of with_interrupt with_bell with_boundaries advanced_of ring_of fallen_from fallen_one no_writes with_rows state_of
activity = rw drained_is (rw counted_good)

-- ---- every row

pub starred_hold : map (λ (r : Row). r.0) starred ≡ map (λ (r : Row). r.1) starred
unfolding token_of page_slots
starred_hold = rw (last_byte, past_end, pending, passed, bell_up, yes, port_change_lem, activity)
