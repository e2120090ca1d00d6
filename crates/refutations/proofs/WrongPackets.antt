-- Machines whose descriptors end inside a packet: chunks of C, as before the order; of one packet, where more fit; of one packet too many. And one
-- whose head keeps the size that the slot was opened with.
use Rattle.std.specs.Prelude.{Ok, Result}
use Prim.Native.Nat.{ℕ}
use mathlib.Core.Path.{◌≡◌, refl, ap}
use mathlib.Core.Logic.{◌≢◌}
use mathlib.Core.Bool.{true}
use mathlib.Core.List.{List, [], ◌∷◌}
use native.Mathlib.Omega.{arith}
use lib.ListN.{get_or}
use Rattle.register.specs.Writes.{no_writes}
use Rattle.token.specs.Chunks.{chunk_count, need_of}
use Rattle.token.specs.Tokens.{token_of}
use Rattle.common.specs.declared.kinds.Direction.TheVariants.{Out}
use Rattle.common.specs.declared.kinds.EndpointType.TheVariants.{Bulk, Control}
use Rattle.descriptor.specs.Descriptors.{new_qtd, terminated, with_next}
use Rattle.descriptor.specs.Heads.{endpoint_head, ring_head, words_of}
use Rattle.descriptor.specs.Slots.{page_slots}
use Rattle.opening.specs.Opening.{fresh_state, opened_heads}
use Rattle.pool.specs.Chains.{fill_of, filled_from}
use Rattle.pool.specs.Places.{list_of, mark_of, packed, places_from}
use Rattle.pool.specs.Plain.{Chain, Transfer as TransferDeed}
use Rattle.pool.specs.Transfers.{bare_at, chunk_qtd, record_at}
use Rattle.settings.specs.Settings.{apart_areas, area_good, each_good, no_overlap, numbers_good, settings_good}
use Rattle.settings.specs.declared.settings.Settings.{Settings}
use Rattle.pipe.specs.Endpoints.{kind_number}
use Rattle.controller.specs.declared.lent.Readings.{Readings}
use Rattle.request.specs.Submit.{first_in, taken_of}
use Rattle.request.specs.declared.judge.TransferRequest.{TransferRequest}
use Rattle.request.specs.Plain.{Taken}
use Rattle.schedule.specs.Links.{started_overlay}
use Rattle.ehci.specs.Door.{Applied, applied}
use Rattle.ehci.specs.declared.call.Call.{Call}
use Rattle.ehci.specs.declared.call.Call.TheVariants.{StartBringUp, BringUpStep, AllocateAddress, OpenEndpoint, Close, SetAddress, SetPacketSize, Submit, Writeback, Cancel, Collect, Acknowledge, Drain, Rearm, Enable, Disable, ClearHalt}
use Rattle.ehci.specs.declared.reply.Answered.TheVariants.{Done, Pending}
use Rattle.ehci.specs.declared.reply.Given.TheVariants.{Id, Nothing, Slot}
use Rattle.promises.specs.Runs.{EveryRun, Machine, World, history_of, in_plain, rows_of, world_of}
use Rattle.promises.specs.Packets.{HeadsSized, PacketsWhole, bytes_met, on_wire, packets_of}
use Rattle.promises.specs.Slots.{slot_in}
use Rattle.promises.specs.Walks.{chain_walk, walk_from}
use Rattle.promises.proofs.invariants.Reached.{fresh_world, opens_fresh}
use Rattle.refutations.proofs.WrongRuns.{sized}
use Rattle.promises.specs.Submissions.{word_at}
use Rattle.descriptor.specs.EhciQueueHead.{maximum_packet_length}
use Rattle.endpoint.specs.Calls.{with_head}
use Rattle.common.specs.Rows.{put_at}
use Rattle.ehci.specs.declared.call.EndpointFields.{EndpointFields}
use Rattle.ehci.specs.declared.reply.Answered.{Answered}
use Rattle.common.specs.declared.answer.Refusal.{Refusal}

-- ---- a controller of four descriptors and one slot, by its limit

abbrev four : ℕ → Settings
four limit = sized 4 1 limit

four_good : (settings_good (four 1000) ≡ true) × (settings_good (four 16384) ≡ true)
unfolding settings_good numbers_good each_good no_overlap area_good apart_areas
four_good = (refl, refl)

-- ---- machines that open slot 0 and cut a request into chunks of so many bytes, with no checks; a set packet size is done and writes nothing

abbrev stays : World → Result Answered Refusal → Applied
stays w a = applied (record { state = w.state; answer = a; writes = no_writes }) w.rows.pool w.rows.heads w.rows.frames w.rows.setups

abbrev chain_of : ℕ → World → TransferRequest → Taken → Chain
chain_of cut w t taken =
    record {
      places = taken.places;
      base = w.state.settings.pool;
      deed = TransferDeed (record { kind = t.kind; direction = t.direction; address = t.address; length = t.length; limit = cut; setup = 0; alternate = 1 });
    }

abbrev written : ℕ → World → ℕ → TransferRequest → Taken → Applied
written cut w k t taken =
    applied (record { state = w.state; answer = Ok (Done (Id 1)); writes = no_writes }) (fill_of (chain_of cut w t taken) w.rows.pool)
    (started_overlay w.rows.heads k (first_in w.state taken) 0) w.rows.frames w.rows.setups

abbrev opened : World → EndpointFields → Applied
opened w x =
    applied (record { state = w.state; answer = Ok (Done (Slot 0)); writes = no_writes }) w.rows.pool
    (with_head w.rows.heads 0 (words_of (endpoint_head x.kind x.address x.number x.packet))) w.rows.frames w.rows.setups

abbrev cuts : ℕ → Machine in_plain
cuts cut w StartBringUp = stays w (Ok Pending)
cuts cut w (BringUpStep v) = stays w (Ok Pending)
cuts cut w AllocateAddress = stays w (Ok Pending)
cuts cut w (OpenEndpoint x) = opened w x
cuts cut w (Close k) = stays w (Ok Pending)
cuts cut w (SetAddress k a) = stays w (Ok Pending)
cuts cut w (SetPacketSize k size) = stays w (Ok (Done Nothing))
cuts cut w (Submit k t readings) = written cut w k t (taken_of w.state.owner 4 (need_of t.kind t.length cut) k)
cuts cut w (Writeback place token) = stays w (Ok Pending)
cuts cut w (Cancel k id readings) = stays w (Ok Pending)
cuts cut w (Collect k id readings) = stays w (Ok Pending)
cuts cut w (Acknowledge r) = stays w (Ok Pending)
cuts cut w (Drain v) = stays w (Ok Pending)
cuts cut w Rearm = stays w (Ok Pending)
cuts cut w Enable = stays w (Ok Pending)
cuts cut w Disable = stays w (Ok Pending)
cuts cut w (ClearHalt k) = stays w (Ok Pending)

-- ---- bulk with packets of 512, and a request

abbrev opens : Call
opens = OpenEndpoint (record { kind = Bulk; address = 1; number = 1; packet = 512 })

abbrev asks : ℕ → TransferRequest
asks bytes = record { kind = Bulk; direction = Out; setup = 0; address = 0x500000; length = bytes }

abbrev reads : Readings
reads = record { command = 0; frame = 0; overlay = 0 }

never : Bulk ≢ Control
never e = let two : ◌≡◌ {A = ℕ} 2 0 = ap kind_number e in omega (arith, two)

abbrev bytes_of : ℕ → ℕ → ℕ → List ℕ
bytes_of limit cut bytes = bytes_met (four limit) (rows_of (cuts cut (fresh_world (four limit)) (Submit 0 (asks bytes) reads))) 0

-- right: one packet a chunk where C is 1,000, and the packets are those of 1,001 bytes
right_bytes : (bytes_of 1000 512 1001 ≡ 512 ∷ 489 ∷ []) × (on_wire 512 (512 ∷ 489 ∷ []) ≡ packets_of 512 1001)
unfolding chain_walk walk_from taken_of places_from mark_of packed list_of fill_of filled_from record_at bare_at chunk_qtd new_qtd with_next started_overlay fresh_state opened_heads ring_head terminated need_of chunk_count token_of page_slots
right_bytes = (refl, refl)

-- ---- refuted

-- chunks of C: 1,000 bytes end in a packet of 488
pub base_whole : EveryRun PacketsWhole (cuts 1000) → ⊥
unfolding history_of world_of slot_in put_at endpoint_head chain_walk walk_from taken_of places_from mark_of packed list_of fill_of filled_from record_at bare_at chunk_qtd new_qtd with_next started_overlay fresh_state opened_heads ring_head terminated need_of chunk_count token_of page_slots
base_whole p =
    let whole = p (four 1000) (fresh_world (four 1000)) (opens_fresh (four 1000) four_good.0) (opens ∷ []) 0 (asks 1001) reads refl never in
    let wrong : ◌≡◌ {A = ℕ} 488 489 = ap (λ (l : List ℕ). get_or l 1 0) whole.packets in
    omega (arith, wrong)

-- one packet a chunk, where 32 fit
pub narrow_whole : EveryRun PacketsWhole (cuts 512) → ⊥
unfolding history_of world_of slot_in put_at endpoint_head chain_walk walk_from taken_of places_from mark_of packed list_of fill_of filled_from record_at bare_at chunk_qtd new_qtd with_next started_overlay fresh_state opened_heads ring_head terminated need_of chunk_count token_of page_slots
narrow_whole p =
    let whole = p (four 16384) (fresh_world (four 16384)) (opens_fresh (four 16384) four_good.1) (opens ∷ []) 0 (asks 1001) reads refl never in
    let wrong : ◌≡◌ {A = ℕ} 512 16384 = whole.but_last.0 in
    omega (arith, wrong)

-- whole packets, but above C
pub over_whole : EveryRun PacketsWhole (cuts 1024) → ⊥
unfolding history_of world_of slot_in put_at endpoint_head chain_walk walk_from taken_of places_from mark_of packed list_of fill_of filled_from record_at bare_at chunk_qtd new_qtd with_next started_overlay fresh_state opened_heads ring_head terminated need_of chunk_count token_of page_slots
over_whole p =
    let whole = p (four 1000) (fresh_world (four 1000)) (opens_fresh (four 1000) four_good.0) (opens ∷ []) 0 (asks 1025) reads refl never in
    let wrong : ◌≡◌ {A = ℕ} 1024 512 = whole.but_last.0 in
    omega (arith, wrong)

-- right: the head that was opened has the size that was asked for
abbrev head_of : List Call → ℕ
head_of cs = maximum_packet_length (word_at (world_of (cuts 512) (fresh_world (four 1000)) cs).rows 0 1)

right_head : head_of (opens ∷ []) ≡ 512
unfolding world_of put_at endpoint_head fresh_state opened_heads ring_head terminated
right_head = refl

-- and keeps it, though the slot was given another
pub kept_heads : EveryRun HeadsSized (cuts 512) → ⊥
unfolding history_of world_of slot_in put_at endpoint_head fresh_state opened_heads ring_head terminated
kept_heads p =
    let sized : head_of (SetPacketSize 0 64 ∷ opens ∷ []) ≡ 64 =
    p (four 1000) (fresh_world (four 1000)) (opens_fresh (four 1000) four_good.0) (SetPacketSize 0 64 ∷ opens ∷ []) 0 in
    let wrong : ◌≡◌ {A = ℕ} 512 64 = sized in
    omega (arith, wrong)
