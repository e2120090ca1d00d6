-- A machine that reads on past a short descriptor, as before order 1: the request of 16385 bytes of which 3,000 came stays linked for ever. That no
-- unlink fails is refuted of it: the request is finished, and its head does not leave.
use Rattle.std.specs.Prelude.{Ok}
use Prim.Native.Nat.{ℕ}
use mathlib.Core.Path.{◌≡◌, refl, sym, ap, subst, ◌∙◌}
use mathlib.Core.Bool.{true, false, cond}
use mathlib.Core.List.{List, [], ◌∷◌}
use native.Mathlib.Omega.{arith}
use lib.Dec.{eqb}
use lib.ListN.{length, replicate}
use Rattle.register.specs.Bits.{without_bits}
use Rattle.register.specs.Writes.{and_then, no_writes}
use Rattle.token.specs.Overlay.{overlay_token}
use Rattle.token.specs.Chunks.{chunk_count, need_of}
use Rattle.token.specs.Tokens.{token_of}
use Rattle.common.specs.declared.kinds.Direction.TheVariants.{In}
use Rattle.common.specs.declared.kinds.EndpointType.TheVariants.{Bulk}
use Rattle.descriptor.specs.Descriptors.{new_qtd, with_next}
use Rattle.descriptor.specs.Slots.{page_slots}
use Rattle.descriptor.specs.declared.qtd.QueueTransferDescriptor.{QueueTransferDescriptor}
use Rattle.pool.specs.Chains.{fill_of, filled_from, first_error, length_of, no_chain, read_of, seen_from, standing_of as stage_seen, view_of}
use Rattle.pool.specs.Places.{list_of, mark_of, packed, places_from}
use Rattle.pool.specs.Transfers.{bare_at, chunk_qtd, record_at, requested_at}
use Rattle.pool.specs.Plain.{Ask}
use Rattle.settings.specs.Settings.{apart_areas, area_good, each_good, no_overlap, numbers_good, settings_good}
use Rattle.slot.specs.Ids.{after_id}
use Rattle.slot.specs.Ranges.{boundary_good, closed_good, idle_good, linked_good, no_request, open_kind, phase_good, slot_good, unlinking_good, size_good, size_kept, toggle_kept}
use Rattle.slot.specs.declared.slot.Slot.{Slot}
use Rattle.state.specs.Ranges.{in_ranges, doorbell_good, interrupt_good, largest, machine_good, owner_good, rest_good, slots_good}
use Rattle.state.specs.Slots.{slot_at, with_slot}
use Rattle.state.specs.State.{with_bell, with_owner}
use Rattle.state.specs.Plain.{Ehci}
use Rattle.pipe.specs.Endpoints.{decoded, endpoint_at, with_endpoint}
use Rattle.opening.specs.Opening.{rows_are_fit}
use Rattle.controller.specs.Lent.{accepts_of}
use Rattle.controller.specs.Readers.{count_zero, free_count}
use Rattle.schedule.specs.Bell.{ring_of, ring_word, unlinked_of}
use Rattle.schedule.specs.Links.{attached_ring, detach_of, precedes_one, predecessor_of, search_from, started_overlay}
use Rattle.request.specs.Submit.{accepted_with, buffer_good, linked_rows, ranges_good, settled_submit, setups_with, state_with, submit_of, taken_for, taken_of as taken_places, writes_with}
use Rattle.request.specs.Writeback.{in_request, writeback_of}
use Rattle.request.specs.declared.judge.TransferRequest.{TransferRequest}
use Rattle.collection.specs.Asks.{ask_of, askable, request_ask}
use Rattle.collection.specs.Calls.{collect_of, linked_of}
use Rattle.collection.specs.Unlinks.{bounded_of, unlink_of, waiting_of}
use Rattle.ehci.specs.declared.call.Call.{Call}
use Rattle.ehci.specs.declared.call.Call.TheVariants.{Collect, Submit, Writeback}
use Rattle.ehci.specs.declared.reply.Answered.TheVariants.{Done, Pending}
use Rattle.ehci.specs.declared.reply.Given.TheVariants as G
use Rattle.ehci.specs.Replies.{replied}
use Rattle.ehci.specs.Decides.{asks_of, collect_decided, decide_of, submit_decided, writeback_decided}
use Rattle.ehci.specs.Door.{Applied, apply_of, carried_out, seen_by}
use Rattle.promises.specs.Runs.{EveryRun, History, Machine, World, in_plain, core, history_of, moment, turn_of, world_of}
use Rattle.promises.specs.Walks.{chain_walk, frame_walk, ring_walk, walk_from}
use Rattle.promises.specs.Events.{Collects, Drains, Event, Other, Parts, Reads, Submits, Unlinks, event}
use Rattle.promises.specs.Uses.{Use, ring_slots, uses}
use Rattle.promises.specs.Rooms.{Every}
use Rattle.promises.specs.Chains.{Detaches, NoDetachFails}
use Rattle.promises.proofs.invariants.Reached.{fresh_world}
use Rattle.refutations.proofs.WrongRuns.{good, head_of, heads_of, idle, no_bell, opened_two, opening, reading, replies, small, state_of, used, with_rows}
use Rattle.refutations.proofs.WrongUp.{up_world, up_calls, up_size}
use Rattle.refutations.proofs.WrongCollections.{rank, rises_up}
use Rattle.refutations.proofs.Scripts.{Follows, Script, arrives, calls_of, is_told, turns_of}

-- ---- bulk In, 16385 bytes in two chunks

abbrev asks : TransferRequest
asks = record { kind = Bulk; direction = In; setup = 0; address = 0x500000; length = 16385 }

abbrev submits : Call
submits = Submit 0 asks (reading 0x80031)

abbrev looks : Call
looks = Collect 0 1 (reading 0x80031)

abbrev slot_of : ℕ → ℕ → Slot
slot_of phase boundary =
    record { phase = phase; kind = 2; size = 512; toggle = 0; id = 2; request = 1; direction = 1; length = 16385; cancel = 0; boundary = boundary }

abbrev linked_state : Ehci
linked_state = used no_bell (1 ∷ 1 ∷ []) (slot_of 2 0) (idle 1)

abbrev records : ℕ → List QueueTransferDescriptor
records token =
    record { next = 0x100040; alternate = 0x100080; token = token; pages = 0x500000 ∷ 0x501000 ∷ 0x502000 ∷ 0x503000 ∷ 0 ∷ []; upper = replicate 5 0 }
    ∷ record { next = 1; alternate = 1; token = 0x00018D80; pages = 0x504000 ∷ 0 ∷ 0 ∷ 0 ∷ 0 ∷ []; upper = replicate 5 0 }
    ∷ []

abbrev linked_with : ℕ → World
linked_with token = with_rows linked_state (records token) (heads_of 0x200082 (head_of 0x200002 0xF2002105 0x100000) (head_of 1 0xF2002205 1))

-- 13384 bytes of the first are left
abbrev short : ℕ
short = 0x34480D00

opened_good : in_ranges (used no_bell (0 ∷ 0 ∷ []) (idle 1) (idle 1)) ≡ true
opened_good = good 1

linked_good_lem : in_ranges linked_state ≡ true
unfolding state_of in_ranges rest_good machine_good interrupt_good doorbell_good owner_good largest slots_good slot_good size_kept toggle_kept size_good phase_good closed_good idle_good linked_good unlinking_good boundary_good open_kind no_request settings_good numbers_good each_good no_overlap area_good apart_areas slot_at without_bits
linked_good_lem = refl

submitted : core opened_two submits ≡ replies (Ok (Done (G.Id 1))) (writes_with (reading 0x80031)) (linked_with 0x40000D80)
unfolding apply_of decide_of asks_of rows_are_fit replied fill_of filled_from no_chain packed list_of submit_decided submit_of accepts_of endpoint_at decoded slot_at ranges_good buffer_good free_count count_zero need_of chunk_count settled_submit accepted_with taken_for taken_places places_from mark_of state_with after_id with_owner with_endpoint with_slot linked_rows started_overlay overlay_token attached_ring setups_with record_at bare_at chunk_qtd new_qtd token_of page_slots with_next state_of
submitted = rw opened_good

written : core (linked_with 0x40000D80) (Writeback 0 short) ≡ replies (Ok (Done G.Nothing)) no_writes (linked_with short)
unfolding apply_of decide_of asks_of rows_are_fit replied fill_of filled_from no_chain packed list_of writeback_decided writeback_of accepts_of in_request endpoint_at decoded slot_at state_of
written = rw linked_good_lem

-- ---- `core`, but that a collect reads on

abbrev onward : Ask → Ask
onward a = record { places = a.places; kind = a.kind; length = a.length; limit = a.limit; stops = false }

abbrev reading_on : World → Call → Applied
reading_on v c =
    carried_out
    (decide_of v.state (length v.rows.pool) v.rows.heads v.rows.frames v.rows.setups (seen_by (onward (asks_of v.state (length v.rows.pool) c)) v.rows.pool) c)
    v.rows.pool

abbrev reads_on : Machine in_plain
reads_on v c = cond (eqb (rank c) 2) (reading_on v c) (core v c)

-- it waits for the second descriptor
waits_on : reads_on (linked_with short) looks ≡ replies (Ok Pending) no_writes (linked_with short)
unfolding decide_of asks_of ask_of askable request_ask places_from seen_from read_of view_of stage_seen first_error length_of requested_at rows_are_fit replied fill_of filled_from no_chain packed list_of collect_decided collect_of linked_of accepts_of endpoint_at decoded slot_at state_of
waits_on = rw linked_good_lem

-- and `core` unlinks
unlinks : (core (linked_with short) looks).reply.writes ≡ and_then no_writes 0 (ring_word 0x80031)
unfolding apply_of decide_of asks_of ask_of askable request_ask places_from seen_from read_of view_of stage_seen first_error length_of requested_at rows_are_fit replied fill_of filled_from no_chain packed list_of collect_decided collect_of linked_of accepts_of endpoint_at decoded slot_at unlink_of waiting_of bounded_of unlinked_of ring_of detach_of predecessor_of search_from precedes_one with_endpoint with_slot with_bell state_of
unlinks = rw linked_good_lem

-- ---- refuted

abbrev w : World
w = fresh_world small

abbrev moves : Script
moves =
    (Writeback 0 short, replies (Ok (Done G.Nothing)) no_writes (linked_with short))
    ∷ (submits, replies (Ok (Done (G.Id 1))) (writes_with (reading 0x80031)) (linked_with 0x40000D80))
    ∷ []

abbrev calls : List Call
calls = calls_of up_calls moves

begins : world_of reads_on w up_calls ≡ opened_two
begins = up_world reads_on (rises_up reads_on (λ v c e. rw (ap (λ (n : ℕ). eqb n 2) e)))

follows : Follows reads_on opened_two moves
follows = (written, (submitted, tt))

abbrev told : History
told = turns_of opened_two (history_of reads_on w up_calls) moves

abbrev first : Use
first = record { slot = 0; id = 1; request = asks; size = 512; places = 0 ∷ 1 ∷ [] }

uses_are : uses small told ≡ first ∷ []
unfolding uses history_of ring_walk walk_from chain_walk
uses_are = ap (λ (n : ℕ). record { slot = 0; id = 1; request = asks; size = n; places = 0 ∷ 1 ∷ [] } ∷ []) (up_size reads_on (rises_up reads_on (λ v c e. rw (ap (λ (n : ℕ). eqb n 2) e))))

linked_told : ring_slots small told ≡ 0 ∷ []
unfolding ring_slots history_of ring_walk walk_from chain_walk
linked_told = refl

abbrev event_number : Event → ℕ
event_number Other = 0
event_number Reads = 1
event_number Drains = 2
event_number (Submits k id r) = 3
event_number (Unlinks k) = 4
event_number (Parts k frame) = 5
event_number (Collects k id frame) = 6

-- what it does is nothing
nothing : event small (turn_of (linked_with short).rows looks (replies (Ok Pending) no_writes (linked_with short))) ≡ Other
unfolding ring_walk frame_walk walk_from state_of
nothing = refl

pub reads_on_detaches : EveryRun NoDetachFails reads_on → ⊥
reads_on_detaches p =
    let every : Every (Detaches small told (moment reads_on (linked_with short))) (first ∷ [])
    = subst (λ (us : List Use). Every (Detaches small told (moment reads_on (linked_with short))) us) uses_are
    (subst (λ (h : History). Every (Detaches small h (moment reads_on (linked_with short))) (uses small h)) (is_told reads_on w up_calls opened_two begins moves follows)
    (subst (λ (v : World). Every (Detaches small (history_of reads_on w calls) (moment reads_on v)) (uses small (history_of reads_on w calls)))
    (arrives reads_on w up_calls opened_two begins moves follows) (p small w opening calls))) in
    let leaves = every.0.ends_ring (reading 0x80031) (rw linked_told) in
    let wrong : ◌≡◌ {A = ℕ} 0 4
    = ap event_number (sym (ap (λ (a : Applied). event small (turn_of (linked_with short).rows looks a)) waits_on ∙ nothing) ∙ leaves) in
    omega (arith, wrong)
