-- Machines that answer a collection wrongly: 10 to every one; 11 to one with a retried packet, as before order 7; no count of these; a length
-- drawn as if each request were a control request. What is due is refuted of each.
use Rattle.std.specs.Prelude.{Err, Ok, Result}
use Prim.Native.Nat.{ℕ}
use mathlib.Core.Path.{◌≡◌, refl, sym, ap, ◌∙◌}
use mathlib.Core.Bool.{true, false, cond}
use mathlib.Core.List.{List, [], ◌∷◌}
use native.Mathlib.Omega.{arith}
use lib.Dec.{eqb}
use lib.ListN.{get_or, length}
use Rattle.register.specs.Bits.{any_of, only_bits, with_bits, without_bits}
use Rattle.register.specs.Writes.{and_then, no_writes}
use Rattle.common.specs.declared.kinds.EndpointType.TheVariants.{Control}
use Rattle.descriptor.specs.Descriptors.{terminated}
use Rattle.descriptor.specs.declared.qtd.QueueTransferDescriptor.{QueueTransferDescriptor}
use Rattle.pool.specs.Chains.{blank, fill_of, filled_from, first_error, length_of, no_chain, read_of, retried_of, seen_from, standing_of as stage_seen, view_of, with_token}
use Rattle.pool.specs.Places.{clear_of, list_of, packed, places_from}
use Rattle.pool.specs.Transfers.{requested_at}
use Rattle.pool.specs.Plain.{Ask}
use Rattle.settings.specs.Settings.{apart_areas, area_good, each_good, no_overlap, numbers_good, settings_good}
use Rattle.slot.specs.Ranges.{boundary_good, closed_good, idle_good, linked_good, no_request, open_kind, phase_good, slot_good, unlinking_good, size_good, size_kept, toggle_kept}
use Rattle.slot.specs.declared.slot.Slot.{Slot}
use Rattle.state.specs.Ranges.{in_ranges, doorbell_good, interrupt_good, largest, machine_good, owner_good, rest_good, slots_good}
use Rattle.state.specs.Slots.{slot_at, with_slot}
use Rattle.state.specs.State.{with_bell, with_boundaries, with_interrupt, with_owner}
use Rattle.state.specs.Plain.{Ehci}
use Rattle.pipe.specs.Endpoints.{decoded, endpoint_at, with_endpoint}
use Rattle.opening.specs.Opening.{rows_are_fit}
use Rattle.common.specs.Rows.{put_at}
use Rattle.controller.specs.Lent.{accepts_of}
use Rattle.schedule.specs.Bell.{advanced_of, fallen_from, fallen_one, ring_of, ring_word, unlinked_of}
use Rattle.schedule.specs.Links.{detach_of, ended_overlay, precedes_one, predecessor_of, search_from}
use Rattle.request.specs.Writeback.{in_request, writeback_of}
use Rattle.collection.specs.Answers.{outcome_of}
use Rattle.collection.specs.Asks.{ask_of, askable, request_ask}
use Rattle.collection.specs.Calls.{collect_of, finish_of, freed, linked_of, unlinking_of}
use Rattle.collection.specs.Unlinks.{bounded_of, unlink_of, waiting_of}
use Rattle.interrupt.specs.Interrupts.{acknowledge_of, acknowledge_writes, acknowledged_state, counted_of, drain_of, noted_after, cleared_of}
use Rattle.ehci.specs.declared.call.Call.{Call}
use Rattle.ehci.specs.declared.call.Call.TheVariants.{StartBringUp, BringUpStep, AllocateAddress, OpenEndpoint, Close, SetAddress, SetPacketSize, Submit, Writeback, Cancel, Collect, Acknowledge, Drain, Rearm, Enable, Disable, ClearHalt}
use Rattle.ehci.specs.declared.reply.Answered.TheVariants.{Done, Pending, Cancelled, Failed}
use Rattle.ehci.specs.declared.reply.Given.TheVariants as G
use Rattle.interrupt.specs.declared.answers.Event.TheVariants as E
use Rattle.ehci.specs.Replies.{answered_number, answered_values, replied}
use Rattle.ehci.specs.Decides.{acknowledge_decided, asks_of, collect_decided, decide_of, drain_decided, writeback_decided}
use Rattle.ehci.specs.Door.{Applied, applied, apply_of, carried_out, seen_by}
use Rattle.promises.specs.Runs.{EveryRun, History, Machine, World, in_plain, core, history_of, moment, world_of}
use Rattle.promises.specs.Walks.{chain_walk, ring_walk, walk_from}
use Rattle.promises.specs.Events.{is_collected}
use Rattle.promises.specs.Uses.{Use, uses}
use Rattle.promises.specs.Bells.{cancelled}
use Rattle.promises.specs.Collections.{Answers, CollectsDue, Due, due_to, those}
use Rattle.promises.proofs.invariants.Reached.{fresh_world}
use Rattle.refutations.proofs.WrongRuns.{acknowledges, asked, chunk, head_of, heads_of, linked, one, opened_two, opening, reading, replies, request, small, state_of, submits, with_rows}
use Rattle.refutations.proofs.WrongUp.{Rises, up_world, up_calls, up_size}
use Rattle.refutations.proofs.WrongCalls.{linked_one, submitted, submits_one}
use Rattle.refutations.proofs.Scripts.{Follows, Script, arrives, calls_of, is_told, turns_of}
use Rattle.ehci.specs.declared.reply.Answered.{Answered}
use Rattle.common.specs.declared.answer.Refusal.{Refusal}

-- ---- machines that differ from `core` in one kind of call

-- 0 on the way up; 1 a submit; 2 a collect; 3 a writeback; 4 any other
abbrev pub rank : Call → ℕ
rank StartBringUp = 0
rank (BringUpStep v) = 0
rank AllocateAddress = 4
rank (OpenEndpoint x) = 0
rank (Close k) = 4
rank (SetAddress k a) = 4
rank (SetPacketSize k size) = 4
rank (Submit k r readings) = 1
rank (Writeback place token) = 3
rank (Cancel k id readings) = 4
rank (Collect k id readings) = 2
rank (Acknowledge x) = 4
rank (Drain v) = 4
rank Rearm = 4
rank Enable = 4
rank Disable = 4
rank (ClearHalt k) = 4

pub rises_up : (m : Machine in_plain) → ((w : World) (c : Call) → rank c ≡ 0 → m w c ≡ core w c) → Rises m
rises_up m same =
    record { starts = λ w n. same w StartBringUp refl; steps = λ w v n. same w (BringUpStep v) refl; opens = λ w x n. same w (OpenEndpoint x) refl }

-- ---- 512 bytes of which 500 are moved, in a retry

abbrev w : World
w = fresh_world small

abbrev pub looks : Call
looks = Collect 0 1 (reading 0x80031)

-- unlinking, not cancelled
abbrev pub leaves : ℕ → Slot
leaves boundary = asked 3 0 boundary

abbrev moved512 : List QueueTransferDescriptor
moved512 = with_token (chunk 0x500000) 0x000C8C08 ∷ blank ∷ []

abbrev pub linked_now : Ehci → World
linked_now s = with_rows s moved512 (heads_of 0x200082 (head_of 0x200002 0xF2002105 0x100000) (head_of 1 0xF2002205 1))

abbrev pub apart_now : Ehci → World
apart_now s = with_rows s moved512 (heads_of 0x200002 (head_of 0x200002 0xF2002105 0x100000) (head_of 1 0xF2002205 1))

states_good_lem : (in_ranges (one 0 0 0 0 0 linked) ≡ true) × (in_ranges (one 0 0 0 1 1 (leaves 1)) ≡ true) × (in_ranges (one 0x20 0x20 1 1 1 (leaves 1)) ≡ true) × (in_ranges (one 0 0x20 0 0 0 (leaves 0)) ≡ true)
unfolding state_of in_ranges rest_good machine_good interrupt_good doorbell_good owner_good largest slots_good slot_good size_kept toggle_kept size_good phase_good closed_good idle_good linked_good unlinking_good boundary_good open_kind no_request settings_good numbers_good each_good no_overlap area_good apart_areas slot_at without_bits
states_good_lem = (refl, refl, refl, refl)

pub written : core (linked_one (one 0 0 0 0 0 linked)) (Writeback 0 0x000C8C08) ≡ replies (Ok (Done G.Nothing)) no_writes (linked_now (one 0 0 0 0 0 linked))
unfolding apply_of decide_of asks_of rows_are_fit replied fill_of filled_from no_chain packed list_of writeback_decided writeback_of accepts_of in_request endpoint_at decoded slot_at state_of
written = rw states_good_lem.0

abbrev pub unlinked : Applied
unlinked = replies (Ok Pending) (and_then no_writes 0 (ring_word 0x80031)) (apart_now (one 0 0 0 1 1 (leaves 1)))

pub unlinks : core (linked_now (one 0 0 0 0 0 linked)) looks ≡ unlinked
unfolding apply_of decide_of asks_of ask_of askable request_ask places_from seen_from read_of view_of stage_seen first_error length_of retried_of requested_at rows_are_fit replied fill_of filled_from no_chain packed list_of collect_decided collect_of linked_of accepts_of endpoint_at decoded slot_at unlink_of waiting_of bounded_of unlinked_of ring_of detach_of predecessor_of search_from precedes_one with_endpoint with_slot with_bell state_of
unlinks = rw states_good_lem.0

hears : core (apart_now (one 0 0 0 1 1 (leaves 1))) (acknowledges 0x20) ≡ replies (Ok (Done G.Yes)) (acknowledge_writes 0x20 0x27 true true) (apart_now (one 0x20 0x20 1 1 1 (leaves 1)))
unfolding apply_of decide_of asks_of rows_are_fit replied fill_of filled_from no_chain packed list_of acknowledge_decided acknowledge_of only_bits with_bits any_of acknowledged_state noted_after with_interrupt with_bell state_of
hears = rw states_good_lem.1

counts : core (apart_now (one 0x20 0x20 1 1 1 (leaves 1))) (Drain 0x80031) ≡ replies (Ok (Done (G.Event E.TransferActivity))) no_writes (apart_now (one 0 0x20 0 0 0 (leaves 0)))
unfolding apply_of decide_of asks_of rows_are_fit replied fill_of filled_from no_chain packed list_of drain_decided drain_of any_of without_bits counted_of cleared_of with_interrupt with_bell with_boundaries advanced_of ring_of fallen_from fallen_one state_of
counts = rw states_good_lem.2

-- what `core` answers in the end
pub length_500 : (core (apart_now (one 0 0x20 0 0 0 (leaves 0))) looks).reply.answer ≡ Ok (Done (G.Length 500 1))
unfolding apply_of decide_of asks_of ask_of askable request_ask places_from seen_from read_of view_of stage_seen first_error length_of retried_of requested_at rows_are_fit replied fill_of filled_from no_chain packed list_of collect_decided collect_of accepts_of endpoint_at decoded slot_at unlinking_of finish_of outcome_of freed clear_of ended_overlay put_at terminated with_owner with_endpoint with_slot state_of
length_500 = rw states_good_lem.3

-- ---- a machine that does so, but for its collects

-- one request; its token written back, inactive, retried, 12 bytes left; a collect that unlinks; the answer; a drain
abbrev moves : Script
moves =
    (Drain 0x80031, replies (Ok (Done (G.Event E.TransferActivity))) no_writes (apart_now (one 0 0x20 0 0 0 (leaves 0))))
    ∷ (acknowledges 0x20, replies (Ok (Done G.Yes)) (acknowledge_writes 0x20 0x27 true true) (apart_now (one 0x20 0x20 1 1 1 (leaves 1))))
    ∷ (looks, unlinked)
    ∷ (Writeback 0 0x000C8C08, replies (Ok (Done G.Nothing)) no_writes (linked_now (one 0 0 0 0 0 linked)))
    ∷ submits_one

abbrev pub c5 : List Call
c5 = calls_of up_calls moves

module _ (m : Machine in_plain) (plain : (v : World) (c : Call) → eqb (rank c) 2 ≡ false → m v c ≡ core v c) (finds : m (linked_now (one 0 0 0 0 0 linked)) looks ≡ unlinked) where
  w0 : world_of m w up_calls ≡ opened_two
  w0 = up_world m (rises_up m (λ v c e. plain v c (ap (λ (n : ℕ). eqb n 2) e)))

  follows : Follows m opened_two moves
  follows = (
    plain (apart_now (one 0x20 0x20 1 1 1 (leaves 1))) (Drain 0x80031) refl ∙ counts,
    (
      plain (apart_now (one 0 0 0 1 1 (leaves 1))) (acknowledges 0x20) refl ∙ hears,
      (
        finds,
        (
          plain (linked_one (one 0 0 0 0 0 linked)) (Writeback 0 0x000C8C08) refl ∙ written,
          (plain opened_two (submits 0 0x500000) refl ∙ submitted, tt),
        ),
      ),
    ),
  )

  pub w5 : world_of m w c5 ≡ apart_now (one 0 0x20 0 0 0 (leaves 0))
  w5 = arrives m w up_calls opened_two w0 moves follows

  abbrev told : History
  told = turns_of opened_two (history_of m w up_calls) moves

  is_so : history_of m w c5 ≡ told
  is_so = is_told m w up_calls opened_two w0 moves follows

  -- one request is uncollected, and 0 with 500 and 1 is due to it
  abbrev first : Use
  first = record { slot = 0; id = 1; request = request 0x500000; size = 512; places = 0 ∷ [] }

  uses_are : uses small told ≡ first ∷ []
  unfolding uses history_of ring_walk walk_from chain_walk
  uses_are = ap (λ (n : ℕ). record { slot = 0; id = 1; request = request 0x500000; size = n; places = 0 ∷ [] } ∷ []) (up_size m (rises_up m (λ v c e. plain v c (ap (λ (n : ℕ). eqb n 2) e))))

  due_is : due_to small told (apart_now (one 0 0x20 0 0 0 (leaves 0))).rows first ≡ record { number = 0; values = 500 ∷ 1 ∷ [] }
  unfolding cancelled history_of ring_walk walk_from
  due_is = refl

  abbrev end : World
  end = world_of m w c5

  pub due_here : EveryRun CollectsDue m → is_collected (m (apart_now (one 0 0x20 0 0 0 (leaves 0))) looks).reply.answer ≡ true
      → (answered_number (m (apart_now (one 0 0x20 0 0 0 (leaves 0))) looks).reply.answer ≡ 0) × (answered_values (m (apart_now (one 0 0x20 0 0 0 (leaves 0))) looks).reply.answer ≡ 500 ∷ 1 ∷ [])
  due_here due e = (at answered_number (λ d. d.number) x.number_is, at answered_values (λ d. d.values) x.values_are)
    where
      x : Answers small (history_of m w c5) (moment m end) 0 1 (reading 0x80031)
      x = due small w opening c5 0 1 (reading 0x80031) (ap (λ (v : World). is_collected (m v looks).reply.answer) w5 ∙ e)

      use_is : x.uncollected ≡ first
      use_is = ap (λ (l : List Use). get_or l 0 first) (sym x.only ∙ ap (λ (h : History). those 0 1 (uses small h)) is_so ∙ ap (those 0 1) uses_are)

      at : {A : Type 0} (f : Result Answered Refusal → A) (g : Due → A) → f (m end looks).reply.answer ≡ g (due_to small (history_of m w c5) end.rows x.uncollected)
          → f (m (apart_now (one 0 0x20 0 0 0 (leaves 0))) looks).reply.answer ≡ g (record { number = 0; values = 500 ∷ 1 ∷ [] })
      at f g q =
          sym (ap (λ (v : World). f (m v looks).reply.answer) w5) ∙ q
          ∙ ap (λ (u : Use). g (due_to small (history_of m w c5) end.rows u)) use_is
          ∙ ap (λ (h : History). g (due_to small h end.rows first)) is_so
          ∙ ap (λ (v : World). g (due_to small told v.rows first)) w5
          ∙ ap g due_is

-- ---- another answer to every collection

abbrev answering : ((Result Answered Refusal) → (Result Answered Refusal)) → Applied → Applied
answering f a =
    applied (record { state = a.reply.state; answer = f a.reply.answer; writes = a.reply.writes }) a.pool a.heads a.frames a.setups

abbrev answers : ((Result Answered Refusal) → (Result Answered Refusal)) → Machine in_plain
answers f v c = cond (eqb (rank c) 2) (answering f (core v c)) (core v c)

-- 10
abbrev ten_for : Result Answered Refusal → Result Answered Refusal
ten_for (Ok (Done given)) = Ok Cancelled
ten_for (Ok Pending) = Ok Pending
ten_for (Ok Cancelled) = Ok Cancelled
ten_for (Ok (Failed token)) = Ok Cancelled
ten_for (Err r) = Err r

abbrev pub tens : Machine in_plain
tens = answers ten_for

pub tens_due : EveryRun CollectsDue tens → ⊥
tens_due due =
    let ten : (tens (apart_now (one 0 0x20 0 0 0 (leaves 0))) looks).reply.answer ≡ (Ok Cancelled) = ap ten_for length_500 in
    let zero = (due_here tens (λ v c e. rw e) (ap (answering ten_for) unlinks) due (ap (λ (a : (Result Answered Refusal)). is_collected a) ten)).0 in
    omega (arith, sym (ap answered_number ten) ∙ zero)

-- 11 with the retried token
abbrev fail_for : Result Answered Refusal → Result Answered Refusal
fail_for (Ok (Done given)) = Ok (Failed 0x000C8C08)
fail_for (Ok Pending) = Ok Pending
fail_for (Ok Cancelled) = Ok Cancelled
fail_for (Ok (Failed token)) = Ok (Failed token)
fail_for (Err r) = Err r

abbrev pub strict : Machine in_plain
strict = answers fail_for

pub strict_due : EveryRun CollectsDue strict → ⊥
strict_due due =
    let fails : (strict (apart_now (one 0 0x20 0 0 0 (leaves 0))) looks).reply.answer ≡ Ok (Failed 0x000C8C08) = ap fail_for length_500 in
    let zero = (due_here strict (λ v c e. rw e) (ap (answering fail_for) unlinks) due (ap (λ (a : (Result Answered Refusal)). is_collected a) fails)).0 in
    omega (arith, sym (ap answered_number fails) ∙ zero)

-- 0 with the length, and no retry
abbrev none_for : Result Answered Refusal → Result Answered Refusal
none_for (Ok (Done given)) = Ok (Done (G.Length 500 0))
none_for (Ok Pending) = Ok Pending
none_for (Ok Cancelled) = Ok Cancelled
none_for (Ok (Failed token)) = Ok (Failed token)
none_for (Err r) = Err r

abbrev pub uncounting : Machine in_plain
uncounting = answers none_for

pub uncounting_due : EveryRun CollectsDue uncounting → ⊥
uncounting_due due =
    let none : (uncounting (apart_now (one 0 0x20 0 0 0 (leaves 0))) looks).reply.answer ≡ Ok (Done (G.Length 500 0)) = ap none_for length_500 in
    let some = (due_here uncounting (λ v c e. rw e) (ap (answering none_for) unlinks) due (ap (λ (a : (Result Answered Refusal)). is_collected a) none)).1 in
    let wrong : ◌≡◌ {A = ℕ} 0 1 = ap (λ (l : List ℕ). get_or l 1 0) (sym (ap answered_values none) ∙ some) in
    omega (arith, wrong)

-- ---- a length drawn as if every request were a control request

abbrev as_control : Ask → Ask
as_control a = record { places = a.places; kind = Control; length = a.length; limit = a.limit; stops = false }

abbrev misread : World → Call → Applied
misread v c =
    carried_out
    (decide_of v.state (length v.rows.pool) v.rows.heads v.rows.frames v.rows.setups (seen_by (as_control (asks_of v.state (length v.rows.pool) c)) v.rows.pool) c)
    v.rows.pool

abbrev pub asks_control : Machine in_plain
asks_control v c = cond (eqb (rank c) 2) (misread v c) (core v c)

misread_unlinks : misread (linked_now (one 0 0 0 0 0 linked)) looks ≡ unlinked
unfolding decide_of asks_of ask_of askable request_ask places_from seen_from read_of view_of stage_seen first_error length_of retried_of requested_at rows_are_fit replied fill_of filled_from no_chain packed list_of collect_decided collect_of linked_of accepts_of endpoint_at decoded slot_at unlink_of waiting_of bounded_of unlinked_of ring_of detach_of predecessor_of search_from precedes_one with_endpoint with_slot with_bell state_of
misread_unlinks = rw states_good_lem.0

misread_none : (misread (apart_now (one 0 0x20 0 0 0 (leaves 0))) looks).reply.answer ≡ Ok (Done (G.Length 0 1))
unfolding decide_of asks_of ask_of askable request_ask places_from seen_from read_of view_of stage_seen first_error length_of retried_of requested_at rows_are_fit replied fill_of filled_from no_chain packed list_of collect_decided collect_of accepts_of endpoint_at decoded slot_at unlinking_of finish_of outcome_of freed clear_of ended_overlay put_at terminated with_owner with_endpoint with_slot state_of
misread_none = rw states_good_lem.3

pub asks_control_due : EveryRun CollectsDue asks_control → ⊥
asks_control_due due =
    let some = (due_here asks_control (λ v c e. rw e) misread_unlinks due (ap (λ (a : (Result Answered Refusal)). is_collected a) misread_none)).1 in
    let none : ◌≡◌ {A = ℕ} 0 500 = ap (λ (l : List ℕ). get_or l 0 0) (sym (ap answered_values misread_none) ∙ some) in
    omega (arith, none)

-- and `core` answers as is due
pub core_due : answered_values (core (apart_now (one 0 0x20 0 0 0 (leaves 0))) looks).reply.answer ≡ 500 ∷ 1 ∷ []
core_due = ap answered_values length_500
