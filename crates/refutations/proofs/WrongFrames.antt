-- A collect that takes FRINDEX to be 9 on: of this machine the frames are not kept, and a place is given too soon.
use Rattle.std.specs.Prelude.{Ok, false}
use Prim.Native.Nat.{ℕ, ◌+◌}
use mathlib.Core.Path.{◌≡◌, refl, sym, ap, ◌∙◌}
use mathlib.Core.Bool.{true, true≢false}
use mathlib.Core.List.{List, [], ◌∷◌, ◌++◌}
use native.Mathlib.Omega.{arith}
use lib.ListN.{replicate}
use Rattle.register.specs.Bits.{without_bits}
use Rattle.register.specs.Writes.{no_writes}
use Rattle.token.specs.Overlay.{overlay_token}
use Rattle.token.specs.Chunks.{chunk_count, need_of}
use Rattle.token.specs.Tokens.{token_of}
use Rattle.common.specs.declared.kinds.Direction.TheVariants.{Out}
use Rattle.common.specs.declared.kinds.EndpointType.TheVariants.{Interrupt}
use Rattle.descriptor.specs.declared.qtd.QueueTransferDescriptor.{QueueTransferDescriptor}
use Rattle.descriptor.specs.Descriptors.{new_qtd, terminated, with_next}
use Rattle.descriptor.specs.Heads.{endpoint_head}
use Rattle.descriptor.specs.Slots.{page_slots}
use Rattle.pool.specs.Chains.{blank, fill_of, filled_from, no_chain}
use Rattle.pool.specs.Places.{clear_of, list_of, mark_of, packed, places_from}
use Rattle.pool.specs.Transfers.{bare_at, chunk_qtd, record_at}
use Rattle.settings.specs.Settings.{apart_areas, area_good, each_good, no_overlap, numbers_good, settings_good}
use Rattle.slot.specs.declared.slot.Slot.{Slot}
use Rattle.slot.specs.Ranges.{boundary_good, closed_good, idle_good, linked_good, no_request, open_kind, phase_good, slot_good, unlinking_good, size_good, size_kept, toggle_kept}
use Rattle.state.specs.Plain.{Ehci}
use Rattle.state.specs.Ranges.{doorbell_good, in_ranges, interrupt_good, largest, machine_good, owner_good, rest_good, slots_good}
use Rattle.state.specs.Slots.{slot_at, with_slot}
use Rattle.state.specs.State.{with_bell, with_owner}
use Rattle.pipe.specs.Endpoints.{bare_slot, decoded, endpoint_at, with_endpoint}
use Rattle.common.specs.Kinds.{is_interrupt}
use Rattle.opening.specs.Opening.{rows_are_fit}
use Rattle.common.specs.Rows.{put_at}
use Rattle.controller.specs.Lent.{accepts_of}
use Rattle.controller.specs.Readers.{count_zero, free_count}
use Rattle.controller.specs.declared.lent.Readings.{Readings}
use Rattle.schedule.specs.Links.{attached_frames, detach_of, ended_overlay, precedes_one, predecessor_of, search_from, started_overlay}
use Rattle.endpoint.specs.Lowest.{closed_from}
use Rattle.endpoint.specs.Calls.{fields_good, open_checks, open_endpoint_of}
use Rattle.request.specs.Submit.{accepted_with, buffer_good, linked_rows, ranges_good, settled_submit, setups_with, state_with, submit_of, taken_for, writes_with, taken_of as taken_places}
use Rattle.slot.specs.Ids.{after_id}
use Rattle.request.specs.declared.judge.TransferRequest.{TransferRequest}
use Rattle.collection.specs.Unlinks.{bounded_of, unlink_of, waiting_of}
use Rattle.collection.specs.Calls.{cancel_of, collect_of, finish_of, freed, unlinking_of}
use Rattle.collection.specs.Answers.{outcome_of}
use Rattle.ehci.specs.declared.call.Call.{Call}
use Rattle.ehci.specs.declared.call.Call.TheVariants.{StartBringUp, BringUpStep, AllocateAddress, OpenEndpoint, Close, SetAddress, SetPacketSize, Submit, Writeback, Cancel, Collect, Acknowledge, Drain, Rearm, Enable, Disable, ClearHalt}
use Rattle.ehci.specs.declared.reply.Answered.TheVariants.{Done, Cancelled}
use Rattle.ehci.specs.declared.reply.Given.TheVariants as G
use Rattle.ehci.specs.Replies.{replied}
use Rattle.ehci.specs.Decides.{asks_of, cancel_decided, collect_decided, decide_of, open_decided, submit_decided}
use Rattle.ehci.specs.Door.{Applied, apply_of}
use Rattle.promises.specs.Runs.{EveryRun, History, Machine, World, in_plain, core, history_of, left_by, rows_of, turn_of, world_of}
use Rattle.promises.specs.Walks.{chain_walk, frame_walk, is_in, ring_walk, walk_from}
use Rattle.promises.specs.Events.{Submits, event, is_collected}
use Rattle.promises.specs.Bells.{kind_at, parted}
use Rattle.promises.specs.Boundaries.{FramesKept}
use Rattle.promises.specs.Faults.{NeverGiven, holds, may_read}
use Rattle.promises.proofs.invariants.Reached.{fresh_world}
use Rattle.refutations.proofs.WrongRuns.{chunk, closed, fresh, heads_of, no_bell, opening, replies, reading, rising, rising_good, small, state_of, used}
use Rattle.refutations.proofs.WrongUp.{Rises, next, run_world, run_calls}
use Rattle.refutations.proofs.Scripts.{Follows, Script, arrives, calls_of, is_told, turns_of}

-- ---- the machine: a collect takes FRINDEX to be 9 on from what was read

abbrev later : Readings → Readings
later r = record { command = r.command; frame = r.frame + 9; overlay = r.overlay }

abbrev sooner : Call → Call
sooner StartBringUp = StartBringUp
sooner (BringUpStep v) = BringUpStep v
sooner AllocateAddress = AllocateAddress
sooner (OpenEndpoint x) = OpenEndpoint x
sooner (Close k) = Close k
sooner (SetAddress k a) = SetAddress k a
sooner (SetPacketSize k size) = SetPacketSize k size
sooner (Submit k r readings) = Submit k r readings
sooner (Writeback place token) = Writeback place token
sooner (Cancel k id readings) = Cancel k id readings
sooner (Collect k id readings) = Collect k id (later readings)
sooner (Acknowledge x) = Acknowledge x
sooner (Drain v) = Drain v
sooner Rearm = Rearm
sooner Enable = Enable
sooner Disable = Disable
sooner (ClearHalt k) = ClearHalt k

abbrev pub hasty : Machine in_plain
hasty w c = core w (sooner c)

-- ---- an interrupt request, and what comes of it

abbrev idle : ℕ → Slot
idle id = bare_slot 1 3 512 0 id

abbrev asked : ℕ → ℕ → ℕ → Slot
asked id phase cancel = record { phase = phase; kind = 3; size = 512; toggle = 0; id = id + 1; request = id; direction = 0; length = 512; cancel = cancel; boundary = 0 }

abbrev state : List ℕ → Slot → Ehci
state owner a = used no_bell owner a closed

states_good_lem : (in_ranges (state (0 ∷ 0 ∷ []) (idle 1)) ≡ true) × (in_ranges (state (1 ∷ 0 ∷ []) (asked 1 2 0)) ≡ true)
    × (in_ranges (state (1 ∷ 0 ∷ []) (asked 1 3 1)) ≡ true) × (in_ranges (state (0 ∷ 0 ∷ []) (idle 2)) ≡ true)
unfolding state_of in_ranges rest_good machine_good interrupt_good doorbell_good owner_good largest slots_good slot_good size_kept toggle_kept size_good phase_good closed_good idle_good linked_good unlinking_good boundary_good open_kind no_request settings_good numbers_good each_good no_overlap area_good apart_areas slot_at without_bits
states_good_lem = (refl, refl, refl, refl)

-- slot 0's head: its overlay's next
abbrev heads_with : ℕ → List ℕ
heads_with next = heads_of 0x200002 (1 ∷ 0xF2002105 ∷ 0x40000001 ∷ 0 ∷ next ∷ 1 ∷ replicate 11 0) (replicate 17 0)

abbrev world : Ehci → List QueueTransferDescriptor → ℕ → ℕ → World
world s pool next frame = record { state = s; rows = record { pool = pool ++ terminated ∷ []; heads = heads_with next; frames = replicate 1024 frame; setups = replicate 16 0 } }

abbrev opened : World
opened = world (state (0 ∷ 0 ∷ []) (idle 1)) (blank ∷ blank ∷ []) 1 1

abbrev linked : World
linked = world (state (1 ∷ 0 ∷ []) (asked 1 2 0)) (chunk 0x500000 ∷ blank ∷ []) 0x100000 0x200082

abbrev parts : World
parts = world (state (1 ∷ 0 ∷ []) (asked 1 3 1)) (chunk 0x500000 ∷ blank ∷ []) 0x100000 1

abbrev free : World
free = world (state (0 ∷ 0 ∷ []) (idle 2)) (chunk 0x500000 ∷ blank ∷ []) 1 1

abbrev again : World
again = world (state (1 ∷ 0 ∷ []) (asked 2 2 0)) (chunk 0x502000 ∷ blank ∷ []) 0x100000 0x200082

abbrev open_interrupt : Call
open_interrupt = OpenEndpoint (record { kind = Interrupt; address = 5; number = 1; packet = 512 })

abbrev asks : ℕ → TransferRequest
asks address = record { kind = Interrupt; direction = Out; setup = 0; address = address; length = 512 }

abbrev submits : ℕ → Call
submits address = Submit 0 (asks address) (reading 0x80031)

opens : left_by (core (fresh (rising 1 0)) open_interrupt) ≡ opened
unfolding apply_of decide_of asks_of rows_are_fit replied fill_of filled_from no_chain packed list_of open_decided open_endpoint_of open_checks accepts_of fields_good size_good closed_from with_endpoint with_slot endpoint_head terminated put_at state_of
opens = rw (rising_good 1 0 refl refl)

links : core opened (submits 0x500000) ≡ replies (Ok (Done (G.Id 1))) (writes_with (reading 0x80031)) linked
unfolding apply_of decide_of asks_of rows_are_fit replied fill_of filled_from no_chain packed list_of submit_decided submit_of accepts_of endpoint_at decoded slot_at ranges_good buffer_good free_count count_zero need_of chunk_count settled_submit accepted_with taken_for taken_places places_from mark_of state_with after_id with_owner with_endpoint with_slot linked_rows started_overlay overlay_token attached_frames setups_with record_at bare_at chunk_qtd new_qtd token_of page_slots with_next state_of
links = rw states_good_lem.0

unlinks : core linked (Cancel 0 1 (reading 0x80031)) ≡ replies (Ok (Done G.Nothing)) no_writes parts
unfolding apply_of decide_of asks_of rows_are_fit replied fill_of filled_from no_chain packed list_of cancel_decided cancel_of accepts_of endpoint_at decoded slot_at unlink_of waiting_of bounded_of detach_of predecessor_of search_from precedes_one with_endpoint with_slot with_bell state_of
unlinks = rw states_good_lem.1

collects : core parts (Collect 0 1 (later (reading 0x80031))) ≡ replies (Ok Cancelled) no_writes free
unfolding apply_of decide_of asks_of rows_are_fit replied fill_of filled_from no_chain packed list_of collect_decided collect_of accepts_of endpoint_at decoded slot_at unlinking_of finish_of outcome_of freed clear_of ended_overlay put_at terminated with_owner with_endpoint with_slot state_of
collects = rw states_good_lem.2

links_again : core free (submits 0x502000) ≡ replies (Ok (Done (G.Id 2))) (writes_with (reading 0x80031)) again
unfolding apply_of decide_of asks_of rows_are_fit replied fill_of filled_from no_chain packed list_of submit_decided submit_of accepts_of endpoint_at decoded slot_at ranges_good buffer_good free_count count_zero need_of chunk_count settled_submit accepted_with taken_for taken_places places_from mark_of state_with after_id with_owner with_endpoint with_slot linked_rows started_overlay overlay_token attached_frames setups_with record_at bare_at chunk_qtd new_qtd token_of page_slots with_next state_of
links_again = rw states_good_lem.3

-- ---- the run: its collect reads the FRINDEX that its unlink read

abbrev w : World
w = fresh_world small

abbrev up : List Call
up = open_interrupt ∷ run_calls

abbrev parting : Script
parting =
    (Cancel 0 1 (reading 0x80031), replies (Ok (Done G.Nothing)) no_writes parts)
    ∷ (submits 0x500000, replies (Ok (Done (G.Id 1))) (writes_with (reading 0x80031)) linked)
    ∷ []

abbrev gone : Script
gone = (Collect 0 1 (reading 0x80031), replies (Ok Cancelled) no_writes free) ∷ parting

abbrev shortly : List Call
shortly = calls_of up parting

abbrev after : List Call
after = calls_of up gone

rises : Rises hasty
rises = record { starts = λ w n. refl; steps = λ w v n. refl; opens = λ w x n. refl }

w0 : world_of hasty w up ≡ opened
unfolding state_of
w0 = next hasty run_calls open_interrupt (fresh (rising 1 0)) opened (run_world hasty rises) refl opens

follows : Follows hasty opened gone
follows = (collects, (unlinks, (links, tt)))

w2 : world_of hasty w shortly ≡ parts
w2 = arrives hasty w up opened w0 parting follows.1

w3 : world_of hasty w after ≡ free
w3 = arrives hasty w up opened w0 gone follows

abbrev turns : Script → History
turns = turns_of opened (history_of hasty w up)

is_so : history_of hasty w shortly ≡ turns parting
is_so = is_told hasty w up opened w0 parting follows.1

is_so_after : history_of hasty w after ≡ turns gone
is_so_after = is_told hasty w up opened w0 gone follows

-- ---- refuted

by_frames : (is_interrupt (kind_at small 0 (turns parting)) ≡ true) × (parted small 0 (turns parting) ≡ 0)
unfolding kind_at parted ring_walk frame_walk walk_from
by_frames = (refl, refl)

pub hasty_frames : EveryRun FramesKept hasty → ⊥
hasty_frames kept =
    let done : is_collected (hasty (world_of hasty w shortly) (Collect 0 1 (reading 0x80031))).reply.answer ≡ true
    = ap (λ (x : World). is_collected (hasty x (Collect 0 1 (reading 0x80031))).reply.answer) w2 ∙ ap (λ (a : Applied). is_collected a.reply.answer) collects in
    let kind : is_interrupt (kind_at small 0 (history_of hasty w shortly)) ≡ true = ap (λ (h : History). is_interrupt (kind_at small 0 h)) is_so ∙ by_frames.0 in
    let at : parted small 0 (history_of hasty w shortly) ≡ 0 = ap (parted small 0) is_so ∙ by_frames.1 in
    omega (arith, (kept small w opening shortly 0 1 (reading 0x80031) done kind).1, at)

still_read : may_read small 0 (turns gone) ≡ true
unfolding may_read holds history_of ring_walk frame_walk walk_from chain_walk
still_read = refl

given : is_in 0 (chain_walk small again.rows 0) ≡ true
unfolding chain_walk walk_from
given = refl

pub hasty_gives : EveryRun NeverGiven hasty → ⊥
hasty_gives never =
    let c : Call = submits 0x502000 in
    let accepted : event small (turn_of (world_of hasty w after).rows c (hasty (world_of hasty w after) c)) ≡ Submits 0 2 (asks 0x502000)
    = ap (λ (x : World). event small (turn_of x.rows c (hasty x c))) w3 ∙ ap (λ (a : Applied). event small (turn_of free.rows c a)) links_again in
    let met : is_in 0 (chain_walk small (rows_of (hasty (world_of hasty w after) c)) 0) ≡ true
    = ap (λ (x : World). is_in 0 (chain_walk small (rows_of (hasty x c)) 0)) w3 ∙ ap (λ (a : Applied). is_in 0 (chain_walk small (rows_of a) 0)) links_again ∙ given in
    true≢false (sym (ap (may_read small 0) is_so_after ∙ still_read) ∙ never small w opening after c 0 2 (asks 0x502000) 0 accepted met)
