-- Machines that leave a request wrongly: a setup packet whose length field is 0, descriptors without the toggle or without the interrupt bit; that lose
-- packets. Some take descriptors and write their chain, with no checks and no schedule; `plain` does it right, and leaves on the same call what it should.
use Rattle.std.specs.Prelude.{Ok}
use Prim.Native.Nat.{ℕ, ◌-◌, ◌*◌, ◌/◌, ◌%◌, ◌^◌}
use mathlib.Core.Path.{◌≡◌, refl, sym, ap, ◌∙◌}
use mathlib.Core.Bool.{true, cond}
use mathlib.Core.List.{List, [], ◌∷◌, map}
use native.Mathlib.Omega.{arith}
use lib.Dec.{eqb}
use lib.ListN.{get_or, replicate}
use Rattle.register.specs.Writes.{no_writes}
use Rattle.token.specs.Chunks.{need_of, working_limit}
use Rattle.token.specs.Plans.{control_plan}
use Rattle.token.specs.Tokens.{token_of}
use Rattle.common.specs.declared.kinds.Direction.TheVariants.{In}
use Rattle.common.specs.declared.kinds.EndpointType.TheVariants.{Control, Bulk}
use Rattle.descriptor.specs.Descriptors.{new_qtd, terminated, with_next}
use Rattle.descriptor.specs.Heads.{ring_head}
use Rattle.descriptor.specs.Setups.{setup_packet}
use Rattle.descriptor.specs.Slots.{page_slots}
use Rattle.descriptor.specs.UsbSetup.{w_length, w_value}
use Rattle.descriptor.specs.declared.qtd.QueueTransferDescriptor.{QueueTransferDescriptor}
use Rattle.pool.specs.Chains.{fill_of, filled_from, with_token}
use Rattle.pool.specs.Places.{list_of, mark_of, packed, places_from}
use Rattle.pool.specs.Transfers.{bare_at, record_at, stage_of_place}
use Rattle.settings.specs.Settings.{apart_areas, area_good, each_good, no_overlap, numbers_good, settings_good}
use Rattle.settings.specs.declared.settings.Settings.{Settings}
use Rattle.opening.specs.Opening.{fresh_state, opened_heads}
use Rattle.common.specs.Rows.{put_at}
use Rattle.controller.specs.declared.lent.Readings.{Readings}
use Rattle.schedule.specs.Links.{started_overlay}
use Rattle.request.specs.Submit.{chain_for, first_in, need_of_request, setups_with, taken_of, writes_with}
use Rattle.request.specs.declared.judge.TransferRequest.{TransferRequest}
use Rattle.request.specs.Plain.{Taken}
use Rattle.ehci.specs.declared.call.Call.TheVariants.{StartBringUp, BringUpStep, AllocateAddress, OpenEndpoint, Close, SetAddress, SetPacketSize, Submit, Writeback, Cancel, Collect, Acknowledge, Drain, Rearm, Enable, Disable, ClearHalt}
use Rattle.ehci.specs.declared.reply.Answered.TheVariants.{Done, Pending}
use Rattle.ehci.specs.declared.reply.Given.TheVariants.{Id}
use Rattle.ehci.specs.Replies.{answered_number}
use Rattle.ehci.specs.Door.{Applied, applied}
use Rattle.promises.specs.Runs.{EveryRun, Machine, Opening, Rows, World, in_plain, core, history_of, rows_of, world_of}
use Rattle.promises.specs.Walks.{chain_walk, walk_from}
use Rattle.promises.specs.Uses.{uses}
use Rattle.promises.specs.Coverage.{records_met}
use Rattle.promises.specs.Submissions.{Fields, PacketsStand, SubmitsPlanned, SubmittedStays, fields_of, packet_at, plan_for, planned}
use Rattle.promises.proofs.invariants.Reached.{fresh_world, opens_fresh}
use Rattle.refutations.proofs.WrongRuns.{linked, one, opened_two, opening, reading, replies, request, small, state_of, submits, sized}
use Rattle.refutations.proofs.WrongUp.{up_world, up_calls, up_size}
use Rattle.refutations.proofs.WrongCalls.{linked_one, submitted}
use Rattle.refutations.proofs.WrongCollections.{rank, rises_up}

-- ---- three descriptors, one slot

abbrev trio : Settings
trio = sized 3 1 16384

trio_good : settings_good trio ≡ true
unfolding settings_good numbers_good each_good no_overlap area_good apart_areas
trio_good = refl

opened : Opening trio (fresh_world trio)
opened = opens_fresh trio trio_good

-- ---- machines that take descriptors

-- what it makes of a token, of the request whose packet it writes, and of the setup packets when it is enabled
pub record Ways : Type 0 where
  pub token : ℕ → ℕ
  pub packet : TransferRequest → TransferRequest
  pub enable : List ℕ → List ℕ

abbrev retoken : (ℕ → ℕ) → List QueueTransferDescriptor → List QueueTransferDescriptor
retoken f rs = map (λ d. with_token d (f d.token)) rs

abbrev written : Ways → World → ℕ → TransferRequest → Taken → Applied
written x w k t taken =
    applied (record { state = w.state; answer = Ok (Done (Id 1)); writes = no_writes }) (retoken x.token (fill_of (chain_for w.state k t taken) w.rows.pool))
    (started_overlay w.rows.heads k (first_in w.state taken) 0) w.rows.frames (setups_with w.rows.setups k (x.packet t))

abbrev leaves : World → List ℕ → Applied
leaves w setups = applied (record { state = w.state; answer = Ok Pending; writes = no_writes }) w.rows.pool w.rows.heads w.rows.frames setups

abbrev stays : World → Applied
stays w = leaves w w.rows.setups

abbrev machine : Ways → Machine in_plain
machine x w StartBringUp = stays w
machine x w (BringUpStep v) = stays w
machine x w AllocateAddress = stays w
machine x w (OpenEndpoint f) = stays w
machine x w (Close k) = stays w
machine x w (SetAddress k a) = stays w
machine x w (SetPacketSize k size) = stays w
machine x w (Submit k t readings) = written x w k t (taken_of w.state.owner 3 (need_of_request w.state k t) k)
machine x w (Writeback place token) = stays w
machine x w (Cancel k id readings) = stays w
machine x w (Collect k id readings) = stays w
machine x w (Acknowledge r) = stays w
machine x w (Drain v) = stays w
machine x w Rearm = stays w
machine x w Enable = leaves w (x.enable w.rows.setups)
machine x w Disable = stays w
machine x w (ClearHalt k) = stays w

abbrev plain : Machine in_plain
plain = machine (record { token = λ w. w; packet = λ t. t; enable = λ l. l })

-- the packet's length field is 0
abbrev lengthless : Machine in_plain
lengthless =
    machine
    (record {
      token = λ w. w;
      packet = λ t. record { kind = t.kind; direction = t.direction; setup = t.setup; address = t.address; length = 0 };
      enable = λ l. l;
    })

-- no token has the toggle
abbrev untoggled : Machine in_plain
untoggled = machine (record { token = λ w. w % 2 ^ 31; packet = λ t. t; enable = λ l. l })

-- the packets are lost
abbrev forgets : Machine in_plain
forgets = machine (record { token = λ w. w; packet = λ t. t; enable = λ l. replicate 8 0 })

-- ---- GET_DESCRIPTOR (device) of 18 bytes

abbrev asks : TransferRequest
asks = record { kind = Control; direction = In; setup = 0x000001000680; address = 0x10000FFF; length = 18 }

abbrev reads : Readings
reads = record { command = 0; frame = 0; overlay = 0 }

abbrev left : Machine in_plain → Rows
left m = rows_of (m (fresh_world trio) (Submit 0 asks reads))

-- setup 00080E80, data 80120D80, status 80008C80, as 01's examples have them
plain_planned : map fields_of (records_met trio (left plain) 0) ≡ planned 1 2 0x400000 8 0 0 ∷ planned 1 1 0x10000FFF 18 1 0 ∷ planned 1 0 0 0 1 1 ∷ []
unfolding chain_walk walk_from taken_of places_from mark_of packed list_of fill_of filled_from record_at bare_at stage_of_place control_plan new_qtd with_next started_overlay fresh_state opened_heads ring_head terminated need_of token_of page_slots
plain_planned = refl

as_planned : plan_for trio trio.limit 0 asks ≡ planned 1 2 0x400000 8 0 0 ∷ planned 1 1 0x10000FFF 18 1 0 ∷ planned 1 0 0 0 1 1 ∷ []
as_planned = refl

plain_packet : (w_length (packet_at (left plain) 0) ≡ 18) × (w_value (packet_at (left plain) 0) ≡ 0x100)
unfolding setups_with put_at setup_packet
plain_packet = (refl, refl)

-- ---- refuted

lengthless_planned : EveryRun SubmitsPlanned lengthless → ⊥
unfolding history_of world_of setups_with put_at setup_packet
lengthless_planned p =
    let none : ◌≡◌ {A = ℕ} 0 18 = ((p trio (fresh_world trio) opened [] 0 asks reads refl).packet refl).length_is in
    omega (arith, none)

abbrev second : List Fields → Fields
second fs = get_or fs 1 (planned 1 0 0 0 0 0)

untoggled_planned : EveryRun SubmitsPlanned untoggled → ⊥
unfolding history_of world_of chain_walk walk_from taken_of places_from mark_of packed list_of fill_of filled_from record_at bare_at stage_of_place control_plan new_qtd with_next started_overlay fresh_state opened_heads ring_head terminated need_of token_of page_slots
untoggled_planned p =
    let none : ◌≡◌ {A = ℕ} 0 1 = ap (λ (fs : List Fields). (second fs).toggle) (p trio (fresh_world trio) opened [] 0 asks reads refl).planned_so in
    omega (arith, none)

-- the request is uncollected, and its packet is gone
forgets_stays : EveryRun SubmittedStays forgets → ⊥
unfolding history_of world_of uses setups_with put_at setup_packet
forgets_stays p =
    let none : ◌≡◌ {A = ℕ} 0 18 = ap w_length ((p trio (fresh_world trio) opened (Submit 0 asks reads ∷ [])).packets Enable).0 in
    omega (arith, none)

forgets_stands : EveryRun PacketsStand forgets → ⊥
unfolding history_of world_of uses setups_with put_at setup_packet
forgets_stands p =
    let none : ◌≡◌ {A = ℕ} 0 18 = ((p trio (fresh_world trio) opened (Enable ∷ Submit 0 asks reads ∷ [])).0 refl).length_is in
    omega (arith, none)

-- ---- `core`, but for the interrupt bit

abbrev quieted : ℕ → ℕ
quieted w = w - 32768 * (w / 32768 % 2)

abbrev quietly : Applied → Applied
quietly a = applied a.reply (retoken quieted a.pool) a.heads a.frames a.setups

abbrev quiet : Machine in_plain
quiet v c = cond (eqb (rank c) 1) (quietly (core v c)) (core v c)

submits_quietly : quiet opened_two (submits 0 0x500000) ≡ quietly (replies (Ok (Done (Id 1))) (writes_with (reading 0x80031)) (linked_one (one 0 0 0 0 0 linked)))
submits_quietly = ap quietly submitted

no_interrupt : map (λ (f : Fields). f.interrupt) (map fields_of (records_met small (rows_of (quietly (replies (Ok (Done (Id 1))) (writes_with (reading 0x80031)) (linked_one (one 0 0 0 0 0 linked))))) 0)) ≡ 0 ∷ []
unfolding chain_walk walk_from state_of
no_interrupt = refl

quiet_planned : EveryRun SubmitsPlanned quiet → ⊥
quiet_planned p =
    let up = up_world quiet (rises_up quiet (λ v c e. rw (ap (λ (n : ℕ). eqb n 1) e))) in
    let w = fresh_world small in
    let call = submits 0 0x500000 in
    let zero : answered_number (quiet (world_of quiet w up_calls) call).reply.answer ≡ 0
    = ap (λ (v : World). answered_number (quiet v call).reply.answer) up ∙ ap (λ (a : Applied). answered_number a.reply.answer) submits_quietly in
    let interrupts : Applied → List ℕ = λ a. map (λ (f : Fields). f.interrupt) (map fields_of (records_met small (rows_of a) 0)) in
    let is : interrupts (quiet (world_of quiet w up_calls) call) ≡ 0 ∷ [] = ap (λ (v : World). interrupts (quiet v call)) up ∙ ap interrupts submits_quietly ∙ no_interrupt in
    let due : interrupts (quiet (world_of quiet w up_calls) call) ≡ 1 ∷ []
    = ap (map (λ (f : Fields). f.interrupt)) (p small w opening up_calls 0 (request 0x500000) (reading 0x80031) zero).planned_so
    ∙ ap (λ (n : ℕ). map (λ (f : Fields). f.interrupt) (plan_for small (working_limit Bulk small.limit n) 0 (request 0x500000))) (up_size quiet (rises_up quiet (λ v c e. rw (ap (λ (n : ℕ). eqb n 1) e)))) in
    let none : ◌≡◌ {A = ℕ} 0 1 = ap (λ (l : List ℕ). get_or l 0 0) (sym is ∙ due) in
    omega (arith, none)
