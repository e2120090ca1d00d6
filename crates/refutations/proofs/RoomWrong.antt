-- Wrong machines, of which room, submit's verdict, exclusive places and coverage are refuted. Each takes descriptors for a request and writes its chain, with
-- no checks and no schedule, in a controller with two descriptors; `plain` does it right, and on the same calls its uses are as they should be.
use Rattle.std.specs.Prelude.{Ok, Result}
use Prim.Native.Nat.{ℕ, ◌+◌, ◌-◌}
use mathlib.Core.Path.{◌≡◌, refl, ap}
use mathlib.Core.List.{List, [], ◌∷◌}
use native.Mathlib.Omega.{arith}
use lib.ListN.{length, replicate, set}
use Rattle.register.specs.Writes.{no_writes}
use Rattle.token.specs.Chunks.{chunk_count, need_of}
use Rattle.token.specs.Tokens.{token_of}
use Rattle.common.specs.declared.kinds.Direction.TheVariants.{Out}
use Rattle.common.specs.declared.kinds.EndpointType.TheVariants.{Bulk}
use Rattle.descriptor.specs.Descriptors.{new_qtd, terminated, with_next}
use Rattle.descriptor.specs.Heads.{ring_head}
use Rattle.descriptor.specs.Slots.{page_slots}
use Rattle.pool.specs.Chains.{fill_of, filled_from}
use Rattle.pool.specs.Places.{list_of, mark_of, packed, places_from, up_from}
use Rattle.pool.specs.Transfers.{bare_at, chunk_qtd, record_at}
use Rattle.state.specs.State.{with_owner}
use Rattle.state.specs.Plain.{Ehci}
use Rattle.opening.specs.Opening.{fresh_state, opened_heads}
use Rattle.controller.specs.Readers.{count_zero, free_count}
use Rattle.controller.specs.declared.lent.Readings.{Readings}
use Rattle.schedule.specs.Links.{started_overlay}
use Rattle.request.specs.Submit.{chain_for, first_in, need_of_request, taken_of}
use Rattle.request.specs.declared.judge.TransferRequest.{TransferRequest}
use Rattle.request.specs.Plain.{Taken}
use Rattle.ehci.specs.declared.call.Call.{Call}
use Rattle.ehci.specs.declared.call.Call.TheVariants.{StartBringUp, BringUpStep, AllocateAddress, OpenEndpoint, Close, SetAddress, SetPacketSize, Submit, Writeback, Cancel, Collect, Acknowledge, Drain, Rearm, Enable, Disable, ClearHalt}
use Rattle.ehci.specs.declared.reply.Answered.TheVariants.{Done, Pending}
use Rattle.ehci.specs.declared.reply.Given.TheVariants.{Id, Nothing, Slot}
use Rattle.ehci.specs.Door.{Applied, applied}
use Rattle.promises.specs.Runs.{EveryRun, Machine, World, in_plain, history_of, rows_of, world_of}
use Rattle.promises.specs.Walks.{chain_walk, walk_from}
use Rattle.promises.specs.Uses.{needs, uses}
use Rattle.promises.specs.Rooms.{ExclusivePlaces, RoomExact, places_in_use}
use Rattle.promises.specs.Opened.{SubmitVerdict}
use Rattle.promises.specs.Slots.{runs_in, slot_in}
use Rattle.promises.specs.Coverage.{Coverage, addressed, data_of, records_met}
use Rattle.promises.proofs.invariants.Reached.{fresh_world}
use Rattle.refutations.proofs.WrongRuns.{opening, small}
use Rattle.state.specs.Slots.{slot_at}
use Rattle.ehci.specs.declared.reply.Answered.{Answered}
use Rattle.common.specs.declared.answer.Refusal.{Refusal}

-- ---- machines that take descriptors

abbrev stays : World → Result Answered Refusal → Ehci → Applied
stays w a s =
    applied (record { state = s; answer = a; writes = no_writes }) w.rows.pool w.rows.heads w.rows.frames w.rows.setups

-- the request is written to the places that are taken, and slot k's overlay leads to them
abbrev written : World → ℕ → TransferRequest → Taken → Applied
written w k t taken =
    applied (record { state = with_owner w.state taken.owner; answer = Ok (Done (Id 1)); writes = no_writes })
    (fill_of (chain_for w.state k t taken) w.rows.pool) (started_overlay w.rows.heads k (first_in w.state taken) 0) w.rows.frames w.rows.setups

-- what it answers to an opening of an endpoint of that number, how it submits, and what a writeback leaves
pub record Ways : Type 0 where
  pub opens : ℕ → Result Answered Refusal
  pub submit : World → ℕ → TransferRequest → Applied
  pub writeback : Ehci → ℕ → Ehci

abbrev machine : Ways → Machine in_plain
machine x w StartBringUp = stays w (Ok Pending) w.state
machine x w (BringUpStep v) = stays w (Ok Pending) w.state
machine x w AllocateAddress = stays w (Ok Pending) w.state
machine x w (OpenEndpoint f) = stays w (x.opens f.number) w.state
machine x w (Close k) = stays w (Ok Pending) w.state
machine x w (SetAddress k a) = stays w (Ok Pending) w.state
machine x w (SetPacketSize k size) = stays w (Ok Pending) w.state
machine x w (Submit k t readings) = x.submit w k t
machine x w (Writeback place token) = stays w (Ok (Done Nothing)) (x.writeback w.state place)
machine x w (Cancel k id readings) = stays w (Ok Pending) w.state
machine x w (Collect k id readings) = stays w (Ok Pending) w.state
machine x w (Acknowledge r) = stays w (Ok Pending) w.state
machine x w (Drain v) = stays w (Ok Pending) w.state
machine x w Rearm = stays w (Ok Pending) w.state
machine x w Enable = stays w (Ok Pending) w.state
machine x w Disable = stays w (Ok Pending) w.state
machine x w (ClearHalt k) = stays w (Ok Pending) w.state

-- endpoint n gets slot n
abbrev numbered : ℕ → Result Answered Refusal
numbered n = Ok (Done (Slot n))

abbrev takes_free : World → ℕ → TransferRequest → Applied
takes_free w k t = written w k t (taken_of w.state.owner 2 (need_of_request w.state k t) k)

abbrev pub plain : Machine in_plain
plain = machine (record { opens = numbered; submit = takes_free; writeback = λ s place. s })

-- a writeback frees the place
abbrev freeing : Machine in_plain
freeing = machine (record { opens = numbered; submit = takes_free; writeback = λ s place. with_owner s (set s.owner place 0) })

-- every request is given the first places, whoever has them
abbrev first : Machine in_plain
first = machine (record { opens = numbered; submit = λ w k t. written w k t (taken_of (replicate 256 0) 2 (need_of_request w.state k t) k); writeback = λ s place. s })

-- the last byte is left out
abbrev clipped : TransferRequest → TransferRequest
clipped t = record { kind = t.kind; direction = t.direction; setup = t.setup; address = t.address; length = t.length - 1 }

abbrev short : Machine in_plain
short = machine (record { opens = numbered; submit = λ w k t. takes_free w k (clipped t); writeback = λ s place. s })

-- slot 0 is open, and gets its request before bring-up
abbrev eager : Machine in_plain
eager = machine (record { opens = λ n. Ok (Done (Slot 0)); submit = takes_free; writeback = λ s place. s })

-- ---- two slots are opened; one byte each to them, and a writeback between

abbrev pub byte : TransferRequest
byte = record { kind = Bulk; direction = Out; setup = 0; address = 0x500000; length = 1 }

abbrev pub reads : Readings
reads = record { command = 0; frame = 0; overlay = 0 }

abbrev opens_bulk : ℕ → Call
opens_bulk n = OpenEndpoint (record { kind = Bulk; address = 1; number = n; packet = 512 })

abbrev calls : List Call
calls = Submit 1 byte reads ∷ Writeback 0 0 ∷ Submit 0 byte reads ∷ opens_bulk 1 ∷ opens_bulk 0 ∷ []

plain_places : places_in_use (uses small (history_of plain (fresh_world small) calls)) ≡ 1 ∷ 0 ∷ []
unfolding history_of world_of uses chain_walk walk_from taken_of places_from mark_of packed list_of fill_of filled_from record_at bare_at chunk_qtd new_qtd with_next started_overlay fresh_state with_owner opened_heads ring_head terminated need_of chunk_count slot_at slot_in
plain_places = refl

plain_room : free_count (world_of plain (fresh_world small) calls).state + needs small (uses small (history_of plain (fresh_world small) calls)) ≡ 2
unfolding history_of world_of uses chain_walk walk_from taken_of places_from mark_of packed list_of fill_of filled_from record_at bare_at chunk_qtd new_qtd with_next started_overlay fresh_state with_owner opened_heads ring_head terminated need_of chunk_count slot_at free_count count_zero slot_in
plain_room = refl

-- ---- refuted

-- the place is free again, and given to slot 1 while slot 0's request has it
freeing_exclusive : EveryRun ExclusivePlaces freeing → ⊥
unfolding history_of world_of uses chain_walk walk_from taken_of places_from mark_of packed list_of fill_of filled_from record_at bare_at chunk_qtd new_qtd with_next started_overlay fresh_state with_owner opened_heads ring_head terminated need_of chunk_count slot_at slot_in
freeing_exclusive e = (e small (fresh_world small) opening calls).distinct.0.0 refl

freeing_room : EveryRun RoomExact freeing → ⊥
unfolding history_of world_of uses chain_walk walk_from taken_of places_from mark_of packed list_of fill_of filled_from record_at bare_at chunk_qtd new_qtd with_next started_overlay fresh_state with_owner opened_heads ring_head terminated need_of chunk_count slot_at free_count count_zero slot_in
freeing_room r = let three : ◌≡◌ {A = ℕ} 3 2 = (r small (fresh_world small) opening (Writeback 0 0 ∷ Submit 0 byte reads ∷ opens_bulk 0 ∷ [])).free in omega (arith, three)

first_exclusive : EveryRun ExclusivePlaces first → ⊥
unfolding history_of world_of uses chain_walk walk_from taken_of places_from mark_of packed list_of fill_of filled_from record_at bare_at chunk_qtd new_qtd with_next started_overlay fresh_state with_owner opened_heads ring_head terminated need_of chunk_count slot_at slot_in
first_exclusive e = (e small (fresh_world small) opening calls).distinct.0.0 refl

first_room : EveryRun RoomExact first → ⊥
unfolding history_of world_of uses chain_walk walk_from taken_of places_from mark_of packed list_of fill_of filled_from record_at bare_at chunk_qtd new_qtd with_next started_overlay fresh_state with_owner opened_heads ring_head terminated need_of chunk_count slot_at free_count count_zero slot_in
first_room r = let three : ◌≡◌ {A = ℕ} 3 2 = (r small (fresh_world small) opening calls).free in omega (arith, three)

-- a submit to a slot that was never opened is accepted, and not answered 3
plain_verdict : EveryRun SubmitVerdict plain → ⊥
unfolding history_of world_of slot_in
plain_verdict v = let three : ◌≡◌ {A = ℕ} 0 3 = v small (fresh_world small) opening [] 0 byte reads in omega (arith, three)

-- one to an open slot of its kind is accepted before bring-up, and not answered 8
eager_verdict : EveryRun SubmitVerdict eager → ⊥
unfolding history_of world_of slot_in runs_in
eager_verdict v =
    let opens : Call = OpenEndpoint (record { kind = Bulk; address = 1; number = 1; packet = 512 }) in
    let eight : ◌≡◌ {A = ℕ} 0 8 = v small (fresh_world small) opening (opens ∷ []) 0 byte reads in
    omega (arith, eight)

-- no byte is addressed where one is asked
short_coverage : EveryRun Coverage short → ⊥
unfolding history_of world_of uses chain_walk walk_from taken_of places_from mark_of packed list_of fill_of filled_from record_at bare_at chunk_qtd new_qtd with_next started_overlay fresh_state with_owner opened_heads ring_head terminated need_of chunk_count slot_at token_of page_slots up_from slot_in
short_coverage c =
    let none : ◌≡◌ {A = List ℕ} [] (0x500000 ∷ []) = c small (fresh_world small) opening [] 0 byte reads refl in
    let zero : ◌≡◌ {A = ℕ} 0 1 = ap length none in
    omega (arith, zero)

-- and the right one covers it
plain_coverage : addressed (data_of Bulk (records_met small (rows_of (plain (fresh_world small) (Submit 0 byte reads))) 0)) ≡ 0x500000 ∷ []
unfolding history_of world_of uses chain_walk walk_from taken_of places_from mark_of packed list_of fill_of filled_from record_at bare_at chunk_qtd new_qtd with_next started_overlay fresh_state with_owner opened_heads ring_head terminated need_of chunk_count slot_at token_of page_slots up_from slot_in
plain_coverage = refl
