-- Machines without order 1, or with a fault in it: of alternate words that terminate, as before the order; a shared descriptor that is active; one
-- that is lent out; and a collect that reads on past a short descriptor. The first three take descriptors and write their chain, with no checks.
use Rattle.std.specs.Prelude.{Ok}
use Prim.Native.Nat.{ℕ, ◌+◌}
use mathlib.Core.Path.{◌≡◌, refl, ap}
use mathlib.Core.Bool.{true}
use mathlib.Core.List.{List, [], ◌∷◌, map}
use native.Mathlib.Omega.{arith}
use lib.ListN.{set}
use Rattle.register.specs.Writes.{no_writes}
use Rattle.token.specs.Chunks.{chunk_count, need_of}
use Rattle.token.specs.Tokens.{token_of}
use Rattle.common.specs.declared.kinds.Direction.TheVariants.{In}
use Rattle.common.specs.declared.kinds.EndpointType.TheVariants.{Bulk}
use Rattle.descriptor.specs.Descriptors.{new_qtd, terminated, with_next}
use Rattle.descriptor.specs.Heads.{ring_head}
use Rattle.descriptor.specs.Slots.{page_slots}
use Rattle.descriptor.specs.declared.qtd.QueueTransferDescriptor.{QueueTransferDescriptor}
use Rattle.pool.specs.Chains.{fill_of, filled_from, with_token}
use Rattle.pool.specs.Places.{list_of, mark_of, packed, places_from}
use Rattle.pool.specs.Transfers.{bare_at, chunk_qtd, record_at}
use Rattle.settings.specs.Settings.{apart_areas, area_good, each_good, no_overlap, numbers_good, settings_good}
use Rattle.settings.specs.declared.settings.Settings.{Settings}
use Rattle.opening.specs.Opening.{fresh_state, opened_heads}
use Rattle.schedule.specs.Links.{started_overlay}
use Rattle.request.specs.Submit.{chain_for, first_in, need_of_request, taken_of}
use Rattle.request.specs.declared.judge.TransferRequest.{TransferRequest}
use Rattle.request.specs.Plain.{Taken}
use Rattle.ehci.specs.declared.call.Call.{Call}
use Rattle.ehci.specs.declared.call.Call.TheVariants.{StartBringUp, BringUpStep, AllocateAddress, OpenEndpoint, Close, SetAddress, SetPacketSize, Submit, Writeback, Cancel, Collect, Acknowledge, Drain, Rearm, Enable, Disable, ClearHalt}
use Rattle.ehci.specs.declared.reply.Answered.TheVariants.{Done, Pending}
use Rattle.ehci.specs.declared.reply.Given.TheVariants.{Id}
use Rattle.ehci.specs.Door.{Applied, applied}
use Rattle.promises.specs.Runs.{EveryRun, Machine, Opening, Rows, World, in_plain, history_of, rows_of, world_of}
use Rattle.promises.specs.Uses.{Use, uses}
use Rattle.promises.specs.Walks.{Ends, Lead, On, chain_walk, next_leads, walk_from}
use Rattle.promises.specs.EhciQueue.{Queue, pointer, visit}
use Rattle.promises.specs.Shorts.{SharedStands, ShortStops, ShortToken, done_with, memory_of}
use Rattle.promises.proofs.invariants.Reached.{fresh_world, opens_fresh}
use Rattle.refutations.proofs.WrongRuns.{sized}
use Rattle.state.specs.Slots.{slot_at}

-- ---- two descriptors and the shared one, one slot

abbrev pair : Settings
pair = sized 2 1 16384

pair_good : settings_good pair ≡ true
unfolding settings_good numbers_good each_good no_overlap area_good apart_areas
pair_good = refl

opened : Opening pair (fresh_world pair)
opened = opens_fresh pair pair_good

-- bulk In, 16385 bytes: two chunks
abbrev asks : TransferRequest
asks = record { kind = Bulk; direction = In; setup = 0; address = 0x500000; length = 16385 }

abbrev call : Call
call = Submit 0 asks (record { command = 0; frame = 0; overlay = 0 })

-- ---- machines that take so many places and do something to the records

abbrev written : (List QueueTransferDescriptor → List QueueTransferDescriptor) → World → ℕ → TransferRequest → Taken → Applied
written f w k t taken =
    applied (record { state = w.state; answer = Ok (Done (Id 1)); writes = no_writes }) (f (fill_of (chain_for w.state k t taken) w.rows.pool))
    (started_overlay w.rows.heads k (first_in w.state taken) 0) w.rows.frames w.rows.setups

abbrev stays : World → Applied
stays w = applied (record { state = w.state; answer = Ok Pending; writes = no_writes }) w.rows.pool w.rows.heads w.rows.frames w.rows.setups

-- `more` places are taken beside what is needed, of that many
abbrev machine : ℕ → ℕ → (List QueueTransferDescriptor → List QueueTransferDescriptor) → Machine in_plain
machine more of f w StartBringUp = stays w
machine more of f w (BringUpStep v) = stays w
machine more of f w AllocateAddress = stays w
machine more of f w (OpenEndpoint x) = stays w
machine more of f w (Close k) = stays w
machine more of f w (SetAddress k a) = stays w
machine more of f w (SetPacketSize k size) = stays w
machine more of f w (Submit k t readings) = written f w k t (taken_of w.state.owner of (need_of_request w.state k t + more) k)
machine more of f w (Writeback place token) = stays w
machine more of f w (Cancel k id readings) = stays w
machine more of f w (Collect k id readings) = stays w
machine more of f w (Acknowledge r) = stays w
machine more of f w (Drain v) = stays w
machine more of f w Rearm = stays w
machine more of f w Enable = stays w
machine more of f w Disable = stays w
machine more of f w (ClearHalt k) = stays w

abbrev plain : Machine in_plain
plain = machine 0 2 (λ rs. rs)

abbrev ended : QueueTransferDescriptor → QueueTransferDescriptor
ended d = record { next = d.next; alternate = 1; token = d.token; pages = d.pages; upper = d.upper }

-- as before the order
abbrev terminates : Machine in_plain
terminates = machine 0 2 (map ended)

-- the shared descriptor is active
abbrev wakes : Machine in_plain
wakes = machine 0 2 (λ rs. set rs 2 (with_token terminated 0x80))

-- place D is lent out
abbrev lends : Machine in_plain
lends = machine 1 3 (λ rs. rs)

-- ---- what they leave

abbrev left : Machine in_plain → Rows
left m = rows_of (m (fresh_world pair) call)

abbrev first : Use
first = record { slot = 0; id = 1; request = asks; size = 0; places = 0 ∷ 1 ∷ [] }

-- 13384 bytes are left, as after 3,000
abbrev short : ℕ
short = 0x34480D00

is_short_lem : ShortToken short
is_short_lem = record { inactive = refl; running = refl; left_over = λ e. omega (arith, e) }

abbrev leads_to : Machine in_plain → Lead
leads_to m = next_leads pair (pointer (done_with pair (left m) first 0 short).overlay)

-- right: to place 2, and the queue stays
plain_leads : leads_to plain ≡ On 2
unfolding taken_of places_from mark_of packed list_of fill_of filled_from record_at bare_at chunk_qtd new_qtd with_next started_overlay fresh_state opened_heads ring_head terminated need_of chunk_count slot_at token_of page_slots
plain_leads = refl

plain_stays : visit (memory_of pair (left plain)) (done_with pair (left plain) first 0 short) ≡ done_with pair (left plain) first 0 short
unfolding taken_of places_from mark_of packed list_of fill_of filled_from record_at bare_at chunk_qtd new_qtd with_next started_overlay fresh_state opened_heads ring_head terminated need_of chunk_count slot_at token_of page_slots
plain_stays = refl

-- as before the order: to the second descriptor, which is begun
base_leads : leads_to terminates ≡ On 1
unfolding taken_of places_from mark_of packed list_of fill_of filled_from record_at bare_at chunk_qtd new_qtd with_next started_overlay fresh_state opened_heads ring_head terminated need_of chunk_count slot_at token_of page_slots
base_leads = refl

base_begins : (visit (memory_of pair (left terminates)) (done_with pair (left terminates) first 0 short)).current ≡ 0x100040
unfolding taken_of places_from mark_of packed list_of fill_of filled_from record_at bare_at chunk_qtd new_qtd with_next started_overlay fresh_state opened_heads ring_head terminated need_of chunk_count slot_at token_of page_slots
base_begins = refl

-- ---- refuted

abbrev place_of : Lead → ℕ
place_of (On p) = p
place_of (Ends e) = 0

pub terminates_stops : EveryRun ShortStops terminates → ⊥
unfolding history_of world_of uses chain_walk walk_from taken_of places_from mark_of packed list_of fill_of filled_from record_at bare_at chunk_qtd new_qtd with_next started_overlay fresh_state opened_heads ring_head terminated need_of chunk_count slot_at token_of page_slots
terminates_stops p =
    let wrong : ◌≡◌ {A = ℕ} 1 2 = ap place_of ((p pair (fresh_world pair) opened (call ∷ [])).0 refl 0 short (omega arith) is_short_lem).leads in
    omega (arith, wrong)

-- the queue begins the shared descriptor
pub wakes_stops : EveryRun ShortStops wakes → ⊥
unfolding history_of world_of uses chain_walk walk_from taken_of places_from mark_of packed list_of fill_of filled_from record_at bare_at chunk_qtd new_qtd with_next started_overlay fresh_state opened_heads ring_head terminated need_of chunk_count slot_at token_of page_slots
wakes_stops p =
    let wrong : ◌≡◌ {A = ℕ} 0x100080 0x100000 = ap (λ (q : Queue). q.current) (((p pair (fresh_world pair) opened (call ∷ [])).0 refl 0 short (omega arith) is_short_lem).stays 1) in
    omega (arith, wrong)

pub wakes_shared : EveryRun SharedStands wakes → ⊥
unfolding history_of world_of uses chain_walk walk_from taken_of places_from mark_of packed list_of fill_of filled_from record_at bare_at chunk_qtd new_qtd with_next started_overlay fresh_state opened_heads ring_head terminated need_of chunk_count slot_at token_of page_slots
wakes_shared p =
    let wrong : ◌≡◌ {A = ℕ} 0x80 0 = ap (λ (d : QueueTransferDescriptor). d.token) (p pair (fresh_world pair) opened (call ∷ [])).stands in
    omega (arith, wrong)

-- its request has places 0, 1 and 2
pub lends_shared : EveryRun SharedStands lends → ⊥
unfolding history_of world_of uses chain_walk walk_from taken_of places_from mark_of packed list_of fill_of filled_from record_at bare_at chunk_qtd new_qtd with_next started_overlay fresh_state opened_heads ring_head terminated need_of chunk_count slot_at token_of page_slots
lends_shared p = (p pair (fresh_world pair) opened (call ∷ [])).lent_to_none.1.1.0 refl

pub lends_met : EveryRun SharedStands lends → ⊥
unfolding history_of world_of uses chain_walk walk_from taken_of places_from mark_of packed list_of fill_of filled_from record_at bare_at chunk_qtd new_qtd with_next started_overlay fresh_state opened_heads ring_head terminated need_of chunk_count slot_at token_of page_slots
lends_met p = (p pair (fresh_world pair) opened (call ∷ [])).met_by_none.0.1.1.0 refl
