-- What `core` does with each call of the wrong machines' runs: one request, then two.
use Rattle.std.specs.Prelude.{Ok}
use Prim.Native.Nat.{ℕ}
use mathlib.Core.Path.{◌≡◌}
use mathlib.Core.Bool.{true}
use mathlib.Core.List.{List, [], ◌∷◌}
use Rattle.register.specs.Bits.{any_of, only_bits, with_bits, without_bits}
use Rattle.register.specs.Writes.{and_then, no_writes}
use Rattle.token.specs.Overlay.{overlay_token}
use Rattle.token.specs.Chunks.{chunk_count, need_of}
use Rattle.token.specs.Tokens.{token_of}
use Rattle.descriptor.specs.Descriptors.{new_qtd, terminated, with_next}
use Rattle.descriptor.specs.Slots.{page_slots}
use Rattle.pool.specs.Chains.{blank, fill_of, filled_from, no_chain}
use Rattle.pool.specs.Places.{clear_of, list_of, mark_of, packed, places_from}
use Rattle.pool.specs.Transfers.{bare_at, chunk_qtd, record_at}
use Rattle.state.specs.Plain.{Ehci}
use Rattle.state.specs.Ranges.{in_ranges}
use Rattle.state.specs.Slots.{slot_at, with_slot}
use Rattle.state.specs.State.{with_bell, with_boundaries, with_interrupt, with_owner}
use Rattle.pipe.specs.Endpoints.{decoded, endpoint_at, with_endpoint}
use Rattle.opening.specs.Opening.{rows_are_fit}
use Rattle.common.specs.Rows.{put_at}
use Rattle.controller.specs.Lent.{accepts_of}
use Rattle.controller.specs.Readers.{count_zero, free_count}
use Rattle.schedule.specs.Bell.{advanced_of, fallen_from, fallen_one, ring_of, ring_word, unlinked_of}
use Rattle.schedule.specs.Links.{attached_ring, detach_of, ended_overlay, precedes_one, predecessor_of, search_from, started_overlay}
use Rattle.request.specs.Submit.{accepted_with, buffer_good, linked_rows, ranges_good, settled_submit, setups_with, state_with, submit_of, taken_for, writes_with, taken_of as taken_places}
use Rattle.slot.specs.Ids.{after_id}
use Rattle.collection.specs.Unlinks.{bounded_of, unlink_of, waiting_of}
use Rattle.collection.specs.Calls.{cancel_of, collect_of, finish_of, freed, unlinking_of}
use Rattle.collection.specs.Answers.{outcome_of}
use Rattle.interrupt.specs.Interrupts.{acknowledge_of, acknowledge_writes, acknowledged_state, counted_of, drain_of, noted_after, cleared_of}
use Rattle.ehci.specs.declared.call.Call.TheVariants.{Cancel, Collect, Drain}
use Rattle.ehci.specs.declared.reply.Answered.TheVariants.{Done, Cancelled}
use Rattle.ehci.specs.declared.reply.Given.TheVariants as G
use Rattle.interrupt.specs.declared.answers.Event.TheVariants as E
use Rattle.ehci.specs.Replies.{replied}
use Rattle.ehci.specs.Decides.{acknowledge_decided, asks_of, cancel_decided, collect_decided, decide_of, drain_decided, submit_decided}
use Rattle.ehci.specs.Door.{apply_of}
use Rattle.promises.specs.Runs.{World, core}
use Rattle.refutations.proofs.WrongRuns.{acknowledges, bell_of, chunk, good, head_of, heads_of, idle, linked, no_bell, one, opened_two, reading, replies, state_of, submits, two, used, waits, with_rows}
use Rattle.refutations.proofs.Scripts.{Script}

-- ---- one request, and what comes of it

abbrev linked_heads : List ℕ
linked_heads = heads_of 0x200082 (head_of 0x200002 0xF2002105 0x100000) (head_of 1 0xF2002205 1)

abbrev apart_heads : List ℕ
apart_heads = heads_of 0x200002 (head_of 0x200002 0xF2002105 0x100000) (head_of 1 0xF2002205 1)

abbrev pub linked_one : Ehci → World
linked_one s = with_rows s (chunk 0x500000 ∷ blank ∷ []) linked_heads

abbrev pub apart_one : Ehci → World
apart_one s = with_rows s (chunk 0x500000 ∷ blank ∷ []) apart_heads

opened_two_good : in_ranges (used no_bell (0 ∷ 0 ∷ []) (idle 1) (idle 1)) ≡ true
opened_two_good = good 1

pub submitted : core opened_two (submits 0 0x500000) ≡ replies (Ok (Done (G.Id 1))) (writes_with (reading 0x80031)) (linked_one (one 0 0 0 0 0 linked))
unfolding apply_of decide_of asks_of rows_are_fit replied fill_of filled_from no_chain packed list_of submit_decided submit_of accepts_of endpoint_at decoded slot_at ranges_good buffer_good free_count count_zero need_of chunk_count settled_submit accepted_with taken_for taken_places places_from mark_of state_with after_id with_owner with_endpoint with_slot linked_rows started_overlay overlay_token attached_ring setups_with record_at bare_at chunk_qtd new_qtd token_of page_slots with_next state_of
submitted = rw opened_two_good

linked_good_lem : in_ranges (one 0 0 0 0 0 linked) ≡ true
linked_good_lem = good 2

-- the advance bit is read while the doorbell is down: no note
pub heard : core (linked_one (one 0 0 0 0 0 linked)) (acknowledges 0x20) ≡ replies (Ok (Done G.Yes)) (acknowledge_writes 0x20 0x27 true true) (linked_one (one 0x20 0x20 0 0 0 linked))
unfolding apply_of decide_of asks_of rows_are_fit replied fill_of filled_from no_chain packed list_of acknowledge_decided acknowledge_of only_bits with_bits any_of acknowledged_state noted_after with_interrupt with_bell state_of
heard = rw linked_good_lem

heard_good : in_ranges (one 0x20 0x20 0 0 0 linked) ≡ true
heard_good = good 3

-- it is unlinked and rings
pub unlinked : core (linked_one (one 0x20 0x20 0 0 0 linked)) (Cancel 0 1 (reading 0x80031))
    ≡ replies (Ok (Done G.Nothing)) (and_then no_writes 0 (ring_word 0x80031)) (apart_one (one 0x20 0x20 0 1 1 (waits 1)))
unfolding apply_of decide_of asks_of rows_are_fit replied fill_of filled_from no_chain packed list_of cancel_decided cancel_of accepts_of endpoint_at decoded slot_at unlink_of waiting_of bounded_of unlinked_of ring_of detach_of predecessor_of search_from precedes_one with_endpoint with_slot with_bell state_of
unlinked = rw heard_good

noted_good : in_ranges (one 0x20 0x20 1 1 1 (waits 1)) ≡ true
noted_good = good 4

-- a note is counted
pub drained : core (apart_one (one 0x20 0x20 1 1 1 (waits 1))) (Drain 0x80031)
    ≡ replies (Ok (Done (G.Event E.TransferActivity))) no_writes (apart_one (one 0 0x20 0 0 0 (waits 0)))
unfolding apply_of decide_of asks_of rows_are_fit replied fill_of filled_from no_chain packed list_of drain_decided drain_of any_of without_bits counted_of cleared_of with_interrupt with_bell with_boundaries advanced_of ring_of fallen_from fallen_one state_of
drained = rw noted_good

passed_good : in_ranges (one 0 0x20 0 0 0 (waits 0)) ≡ true
passed_good = good 5

abbrev pub free_one : World
free_one = with_rows (used (bell_of 0 0x20 0 0 0) (0 ∷ 0 ∷ []) (idle 2) (idle 1)) (chunk 0x500000 ∷ blank ∷ []) (heads_of 0x200002 (head_of 0x200002 0xF2002105 1) (head_of 1 0xF2002205 1))

-- it is collected, and its place is given again
pub collected : core (apart_one (one 0 0x20 0 0 0 (waits 0))) (Collect 0 1 (reading 0x80031)) ≡ replies (Ok Cancelled) no_writes free_one
unfolding apply_of decide_of asks_of rows_are_fit replied fill_of filled_from no_chain packed list_of collect_decided collect_of accepts_of endpoint_at decoded slot_at unlinking_of finish_of outcome_of freed clear_of ended_overlay put_at terminated with_owner with_endpoint with_slot state_of
collected = rw passed_good

free_good : in_ranges (used (bell_of 0 0x20 0 0 0) (0 ∷ 0 ∷ []) (idle 2) (idle 1)) ≡ true
free_good = good 6

abbrev pub again_one : World
again_one =
    with_rows (used (bell_of 0 0x20 0 0 0) (1 ∷ 0 ∷ []) (record { phase = 2; kind = 2; size = 512; toggle = 0; id = 3; request = 2; direction = 0; length = 512; cancel = 0; boundary = 0 }) (idle 1))
    (chunk 0x502000 ∷ blank ∷ []) (heads_of 0x200082 (head_of 0x200002 0xF2002105 0x100000) (head_of 1 0xF2002205 1))

pub submitted_again : core free_one (submits 0 0x502000) ≡ replies (Ok (Done (G.Id 2))) (writes_with (reading 0x80031)) again_one
unfolding apply_of decide_of asks_of rows_are_fit replied fill_of filled_from no_chain packed list_of submit_decided submit_of accepts_of endpoint_at decoded slot_at ranges_good buffer_good free_count count_zero need_of chunk_count settled_submit accepted_with taken_for taken_places places_from mark_of state_with after_id with_owner with_endpoint with_slot linked_rows started_overlay overlay_token attached_ring setups_with record_at bare_at chunk_qtd new_qtd token_of page_slots with_next state_of
submitted_again = rw free_good

-- ---- two requests, and what comes of them

abbrev pub pair_world : Ehci → List ℕ → World
pair_world s heads = with_rows s (chunk 0x500000 ∷ chunk 0x501000 ∷ []) heads

abbrev pub linked_two : World
linked_two = pair_world (two 0 0 0 0 0 linked linked) (heads_of 0x200102 (head_of 0x200002 0xF2002105 0x100000) (head_of 0x200082 0xF2002205 0x100040))

abbrev pub apart_first : World
apart_first = pair_world (two 0 0 0 1 1 (waits 1) linked) (heads_of 0x200102 (head_of 0x200002 0xF2002105 0x100000) (head_of 0x200002 0xF2002205 0x100040))

-- both heads are out of the ring
abbrev pub apart_two : Ehci → World
apart_two s = pair_world s (heads_of 0x200002 (head_of 0x200002 0xF2002105 0x100000) (head_of 0x200002 0xF2002205 0x100040))

pub submitted_two : core (linked_one (one 0 0 0 0 0 linked)) (submits 1 0x501000) ≡ replies (Ok (Done (G.Id 1))) (writes_with (reading 0x80031)) linked_two
unfolding apply_of decide_of asks_of rows_are_fit replied fill_of filled_from no_chain packed list_of submit_decided submit_of accepts_of endpoint_at decoded slot_at ranges_good buffer_good free_count count_zero need_of chunk_count settled_submit accepted_with taken_for taken_places places_from mark_of state_with after_id with_owner with_endpoint with_slot linked_rows started_overlay overlay_token attached_ring setups_with record_at bare_at chunk_qtd new_qtd token_of page_slots with_next state_of
submitted_two = rw linked_good_lem

one_apart_good : in_ranges (one 0 0 0 1 1 (waits 1)) ≡ true
one_apart_good = good 14

-- a second request beside one that is out of the ring
pub submitted_beside : core (apart_one (one 0 0 0 1 1 (waits 1))) (submits 1 0x501000) ≡ replies (Ok (Done (G.Id 1))) (writes_with (reading 0x80031)) apart_first
unfolding apply_of decide_of asks_of rows_are_fit replied fill_of filled_from no_chain packed list_of submit_decided submit_of accepts_of endpoint_at decoded slot_at ranges_good buffer_good free_count count_zero need_of chunk_count settled_submit accepted_with taken_for taken_places places_from mark_of state_with after_id with_owner with_endpoint with_slot linked_rows started_overlay overlay_token attached_ring setups_with record_at bare_at chunk_qtd new_qtd token_of page_slots with_next state_of
submitted_beside = rw one_apart_good

two_linked_good : in_ranges (two 0 0 0 0 0 linked linked) ≡ true
two_linked_good = good 7

pub unlinked_first : core linked_two (Cancel 0 1 (reading 0x80031)) ≡ replies (Ok (Done G.Nothing)) (and_then no_writes 0 (ring_word 0x80031)) apart_first
unfolding apply_of decide_of asks_of rows_are_fit replied fill_of filled_from no_chain packed list_of cancel_decided cancel_of accepts_of endpoint_at decoded slot_at unlink_of waiting_of bounded_of unlinked_of ring_of detach_of predecessor_of search_from precedes_one with_endpoint with_slot with_bell state_of
unlinked_first = rw two_linked_good

first_apart_good : in_ranges (two 0 0 0 1 1 (waits 1) linked) ≡ true
first_apart_good = good 8

-- a ring is out already
pub unlinked_second : core apart_first (Cancel 1 1 (reading 0x80071)) ≡ replies (Ok (Done G.Nothing)) no_writes (apart_two (two 0 0 0 1 2 (waits 1) (waits 2)))
unfolding apply_of decide_of asks_of rows_are_fit replied fill_of filled_from no_chain packed list_of cancel_decided cancel_of accepts_of endpoint_at decoded slot_at unlink_of waiting_of bounded_of unlinked_of ring_of detach_of predecessor_of search_from precedes_one with_endpoint with_slot with_bell state_of
unlinked_second = rw first_apart_good

two_apart_good : in_ranges (two 0 0 0 1 2 (waits 1) (waits 2)) ≡ true
two_apart_good = good 9

-- the answer comes with a port change
pub heard_two : core (apart_two (two 0 0 0 1 2 (waits 1) (waits 2))) (acknowledges 0x24) ≡ replies (Ok (Done G.Yes)) (acknowledge_writes 0x24 0x27 true true) (apart_two (two 0x24 0x24 1 1 2 (waits 1) (waits 2)))
unfolding apply_of decide_of asks_of rows_are_fit replied fill_of filled_from no_chain packed list_of acknowledge_decided acknowledge_of only_bits with_bits any_of acknowledged_state noted_after with_interrupt with_bell state_of
heard_two = rw two_apart_good

two_heard_good : in_ranges (two 0x24 0x24 1 1 2 (waits 1) (waits 2)) ≡ true
two_heard_good = good 10

-- counted, and rung again
pub drained_first : core (apart_two (two 0x24 0x24 1 1 2 (waits 1) (waits 2))) (Drain 0x80031)
    ≡ replies (Ok (Done (G.Event E.PortChange))) (and_then no_writes 0 (ring_word 0x80031)) (apart_two (two 0x20 0x24 0 1 1 (waits 0) (waits 1)))
unfolding apply_of decide_of asks_of rows_are_fit replied fill_of filled_from no_chain packed list_of drain_decided drain_of any_of without_bits counted_of cleared_of with_interrupt with_bell with_boundaries advanced_of ring_of fallen_from fallen_one state_of
drained_first = rw two_heard_good

two_noted_good : in_ranges (two 0x20 0x24 1 1 1 (waits 0) (waits 1)) ≡ true
two_noted_good = good 11

-- with a note, a second drain counts
pub drained_second : core (apart_two (two 0x20 0x24 1 1 1 (waits 0) (waits 1))) (Drain 0x80031)
    ≡ replies (Ok (Done (G.Event E.TransferActivity))) no_writes (apart_two (two 0 0x24 0 0 0 (waits 0) (waits 0)))
unfolding apply_of decide_of asks_of rows_are_fit replied fill_of filled_from no_chain packed list_of drain_decided drain_of any_of without_bits counted_of cleared_of with_interrupt with_bell with_boundaries advanced_of ring_of fallen_from fallen_one state_of
drained_second = rw two_noted_good

two_passed_good : in_ranges (two 0 0x24 0 0 0 (waits 0) (waits 0)) ≡ true
two_passed_good = good 12

abbrev pub free_second : World
free_second =
    pair_world (used (bell_of 0 0x24 0 0 0) (1 ∷ 0 ∷ []) (waits 0) (idle 2))
    (heads_of 0x200002 (head_of 0x200002 0xF2002105 0x100000) (head_of 0x200002 0xF2002205 1))

pub collected_second : core (apart_two (two 0 0x24 0 0 0 (waits 0) (waits 0))) (Collect 1 1 (reading 0x80031)) ≡ replies (Ok Cancelled) no_writes free_second
unfolding apply_of decide_of asks_of rows_are_fit replied fill_of filled_from no_chain packed list_of collect_decided collect_of accepts_of endpoint_at decoded slot_at unlinking_of finish_of outcome_of freed clear_of ended_overlay put_at terminated with_owner with_endpoint with_slot state_of
collected_second = rw two_passed_good

second_free_good : in_ranges (used (bell_of 0 0x24 0 0 0) (1 ∷ 0 ∷ []) (waits 0) (idle 2)) ≡ true
second_free_good = good 13

abbrev pub again_second : World
again_second =
    with_rows (used (bell_of 0 0x24 0 0 0) (1 ∷ 2 ∷ []) (waits 0) (record { phase = 2; kind = 2; size = 512; toggle = 0; id = 3; request = 2; direction = 0; length = 512; cancel = 0; boundary = 0 }))
    (chunk 0x500000 ∷ chunk 0x502000 ∷ []) (heads_of 0x200102 (head_of 0x200002 0xF2002105 0x100000) (head_of 0x200002 0xF2002205 0x100040))

pub submitted_second : core free_second (submits 1 0x502000) ≡ replies (Ok (Done (G.Id 2))) (writes_with (reading 0x80031)) again_second
unfolding apply_of decide_of asks_of rows_are_fit replied fill_of filled_from no_chain packed list_of submit_decided submit_of accepts_of endpoint_at decoded slot_at ranges_good buffer_good free_count count_zero need_of chunk_count settled_submit accepted_with taken_for taken_places places_from mark_of state_with after_id with_owner with_endpoint with_slot linked_rows started_overlay overlay_token attached_ring setups_with record_at bare_at chunk_qtd new_qtd token_of page_slots with_next state_of
submitted_second = rw second_free_good

-- ---- runs

abbrev pub submits_one : Script
submits_one = (submits 0 0x500000, replies (Ok (Done (G.Id 1))) (writes_with (reading 0x80031)) (linked_one (one 0 0 0 0 0 linked))) ∷ []

-- two requests are unlinked, and the first rings; the answer, with a port change
abbrev pub hears_two : Script
hears_two =
    (acknowledges 0x24, replies (Ok (Done G.Yes)) (acknowledge_writes 0x24 0x27 true true) (apart_two (two 0x24 0x24 1 1 2 (waits 1) (waits 2))))
    ∷ (Cancel 1 1 (reading 0x80071), replies (Ok (Done G.Nothing)) no_writes (apart_two (two 0 0 0 1 2 (waits 1) (waits 2))))
    ∷ (Cancel 0 1 (reading 0x80031), replies (Ok (Done G.Nothing)) (and_then no_writes 0 (ring_word 0x80031)) apart_first)
    ∷ (submits 1 0x501000, replies (Ok (Done (G.Id 1))) (writes_with (reading 0x80031)) linked_two)
    ∷ submits_one
