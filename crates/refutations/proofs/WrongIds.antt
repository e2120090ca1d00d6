-- A machine that gives the ids 1, 2, 3 again and again: the fourth request of a slot is not given 4. And one that cancels by any id.
use Rattle.std.specs.Prelude.{Ok}
use Prim.Native.Nat.{ℕ, ◌+◌, ◌-◌, ◌%◌, ◌^◌}
use mathlib.Core.Bool.{true, false, cond}
use mathlib.Core.List.{List, [], ◌∷◌}
use mathlib.Core.Path.{◌≡◌, refl, sym, ap, ◌∙◌}
use native.Mathlib.Omega.{arith}
use lib.Dec.{eqb}
use Rattle.register.specs.Bits.{any_of, only_bits, with_bits, without_bits}
use Rattle.register.specs.Writes.{and_then, no_writes}
use Rattle.token.specs.Overlay.{overlay_token}
use Rattle.token.specs.Chunks.{chunk_count, need_of}
use Rattle.token.specs.Tokens.{token_of}
use Rattle.descriptor.specs.Descriptors.{new_qtd, terminated, with_next}
use Rattle.descriptor.specs.Slots.{page_slots}
use Rattle.pool.specs.Chains.{blank, fill_of, filled_from, no_chain}
use Rattle.pool.specs.Places.{clear_of, list_of, mark_of, packed, places_from}
use Rattle.pool.specs.Transfers.{bare_at, chunk_qtd, record_at}
use Rattle.settings.specs.Settings.{apart_areas, area_good, each_good, no_overlap, numbers_good, settings_good}
use Rattle.slot.specs.Ranges.{boundary_good, closed_good, idle_good, linked_good, no_request, open_kind, phase_good, slot_good, unlinking_good, size_good, size_kept, toggle_kept}
use Rattle.slot.specs.declared.slot.Slot.{Slot}
use Rattle.state.specs.Plain.{Ehci}
use Rattle.state.specs.Ranges.{doorbell_good, in_ranges, interrupt_good, largest, machine_good, owner_good, rest_good, slots_good}
use Rattle.state.specs.Slots.{slot_at, with_slot}
use Rattle.state.specs.State.{with_bell, with_boundaries, with_interrupt, with_owner}
use Rattle.pipe.specs.Endpoints.{decoded, endpoint_at, with_endpoint}
use Rattle.opening.specs.Opening.{rows_are_fit}
use Rattle.common.specs.Rows.{put_at}
use Rattle.controller.specs.Lent.{accepts_of}
use Rattle.controller.specs.Readers.{count_zero, free_count}
use Rattle.schedule.specs.Bell.{advanced_of, fallen_from, fallen_one, ring_of, ring_word, unlinked_of}
use Rattle.schedule.specs.Links.{attached_ring, detach_of, ended_overlay, precedes_one, predecessor_of, search_from, started_overlay}
use Rattle.request.specs.Submit.{accepted_with, buffer_good, linked_rows, ranges_good, settled_submit, setups_with, state_with, submit_of, taken_for, writes_with, taken_of as taken_places}
use Rattle.slot.specs.Ids.{after_id}
use Rattle.collection.specs.Unlinks.{bounded_of, unlink_of, waiting_of}
use Rattle.collection.specs.Calls.{cancel_of, collect_of, finish_of, freed, unlinking_of}
use Rattle.collection.specs.Answers.{outcome_of}
use Rattle.interrupt.specs.Interrupts.{acknowledge_of, acknowledge_writes, acknowledged_state, counted_of, drain_of, noted_after, cleared_of}
use Rattle.ehci.specs.declared.call.Call.{Call}
use Rattle.ehci.specs.declared.call.Call.TheVariants.{Cancel, Collect, Drain}
use Rattle.ehci.specs.declared.reply.Answered.TheVariants.{Done, Cancelled}
use Rattle.ehci.specs.declared.reply.Given.TheVariants as G
use Rattle.interrupt.specs.declared.answers.Event.TheVariants as E
use Rattle.ehci.specs.Replies.{answered_values, replied}
use Rattle.ehci.specs.Decides.{acknowledge_decided, asks_of, cancel_decided, collect_decided, decide_of, drain_decided, submit_decided}
use Rattle.ehci.specs.Door.{Applied, apply_of}
use Rattle.promises.specs.Runs.{EveryRun, History, Machine, World, in_plain, core, history_of, moment, turn_by, turn_of, world_of}
use Rattle.promises.specs.Walks.{ring_walk, walk_from}
use Rattle.promises.specs.Events.{Submits, event, first_in, is_done}
use Rattle.promises.specs.Slots.{slot_in}
use Rattle.promises.specs.Uses.{uses}
use Rattle.promises.specs.Registers.{Access}
use Rattle.promises.specs.Ids.{CancelsById, CollectsById, IdsInTurn, following, next_id}
use Rattle.promises.proofs.invariants.Reached.{fresh_world}
use Rattle.refutations.proofs.WrongRuns.{acknowledges, bell_of, chunk, head_of, heads_of, idle, linked, one, opened_two, opening, reading, replies, request, small, state_of, submits, used, waits, with_rows}
use Rattle.refutations.proofs.WrongUp.{up_world, up_calls}
use Rattle.refutations.proofs.WrongCalls.{again_one, apart_one, collected, drained, free_one, linked_one, submitted, submitted_again}
use Rattle.refutations.proofs.WrongBut.{answering, but, but_rises, is_leaves, is_submits}
use Rattle.refutations.proofs.WrongNever.{hears, leaves, hears_one}
use Rattle.refutations.proofs.Scripts.{Follows, Script, arrives, is_told}

-- after 3 comes 1
abbrev in_threes : Applied → Applied
in_threes a = cond (is_done a.reply.answer) (answering (Ok (Done (G.Id ((first_in (answered_values a.reply.answer) - 1) % 3 + 1)))) a) a

abbrev pub thrice : Machine in_plain
thrice = but (λ x a. is_submits a) (λ x a. in_threes a)

abbrev w : World
w = fresh_world small

abbrev past : List Call → History
past cs = history_of thrice w cs

abbrev cancels : ℕ → Call
cancels n = Cancel 0 n (reading 0x80031)

abbrev collects : ℕ → Call
collects n = Collect 0 n (reading 0x80031)

abbrev again : Call
again = submits 0 0x502000

-- request n is unlinked, which rings; the answer; a drain; it is collected
abbrev round : ℕ → List Call → List Call
round n cs = collects n ∷ Drain 0x80031 ∷ acknowledges 0x20 ∷ cancels n ∷ cs

-- ---- the first round, and the second request

up : world_of thrice w up_calls ≡ opened_two
up = up_world thrice (but_rises (λ (x : World) (a : Access). is_submits a) (λ (x : World) (a : Applied). in_threes a) (λ x. refl) (λ x n. refl) (λ x v. refl))

abbrev c1 : List Call
c1 = submits 0 0x500000 ∷ up_calls

abbrev given_one : Applied
given_one = replies (Ok (Done (G.Id 1))) (writes_with (reading 0x80031)) (linked_one (one 0 0 0 0 0 linked))

submits_one_lem : thrice opened_two (submits 0 0x500000) ≡ given_one
submits_one_lem = ap in_threes submitted

abbrev c2 : List Call
c2 = again ∷ round 1 c1

abbrev second : Script
second =
    (again, in_threes (replies (Ok (Done (G.Id 2))) (writes_with (reading 0x80031)) again_one))
    ∷ (collects 1, replies (Ok Cancelled) no_writes free_one)
    ∷ (Drain 0x80031, replies (Ok (Done (G.Event E.TransferActivity))) no_writes (apart_one (one 0 0x20 0 0 0 (waits 0))))
    ∷ hears_one

second_so : Follows thrice opened_two second
second_so = (ap in_threes submitted_again, (collected, (drained, (hears, (leaves, (submits_one_lem, tt))))))

second_due : next_id small 0 (past c2) ≡ following (following (next_id small 0 (past up_calls)))
unfolding next_id ring_walk walk_from
second_due = ap (next_id small 0) (is_told thrice w up_calls opened_two up second second_so)

-- ---- the rounds after it: request n, and n + 1 is next

abbrev slot_of : ℕ → ℕ → ℕ → ℕ → Slot
slot_of n phase cancel boundary =
    record { phase = phase; kind = 2; size = 512; toggle = 0; id = n + 1; request = n; direction = 0; length = 512; cancel = cancel; boundary = boundary }

abbrev bare : ℕ → Ehci
bare n = used (bell_of 0 0x20 0 0 0) (0 ∷ 0 ∷ []) (idle (n + 1)) (idle 1)

abbrev held : ℕ → ℕ → ℕ → ℕ → ℕ → ℕ → ℕ → ℕ → Ehci
held n pending noted doorbell unanswered phase cancel boundary = used (bell_of pending 0x20 noted doorbell unanswered) (1 ∷ 0 ∷ []) (slot_of n phase cancel boundary) (idle 1)

abbrev linked_n : ℕ → World
linked_n n = with_rows (held n 0 0 0 0 2 0 0) (chunk 0x502000 ∷ blank ∷ []) (heads_of 0x200082 (head_of 0x200002 0xF2002105 0x100000) (head_of 1 0xF2002205 1))

abbrev apart_n : Ehci → World
apart_n s = with_rows s (chunk 0x502000 ∷ blank ∷ []) (heads_of 0x200002 (head_of 0x200002 0xF2002105 0x100000) (head_of 1 0xF2002205 1))

abbrev free_n : ℕ → World
free_n n = with_rows (bare n) (chunk 0x502000 ∷ blank ∷ []) (heads_of 0x200002 (head_of 0x200002 0xF2002105 1) (head_of 1 0xF2002205 1))

record Goods (n : ℕ) : Type 0 where
  same : eqb n n ≡ true
  more : eqb (n + 1) (2 ^ 64 - 1) ≡ false
  linked_good_lem : in_ranges (held n 0 0 0 0 2 0 0) ≡ true
  left_good : in_ranges (held n 0 0 1 1 3 1 1) ≡ true
  heard_good : in_ranges (held n 0x20 1 1 1 3 1 1) ≡ true
  counted_good : in_ranges (held n 0 0 0 0 3 1 0) ≡ true
  free_good : in_ranges (bare n) ≡ true

module _ (n : ℕ) (g : Goods n) where
  abbrev left : Applied
  left = replies (Ok (Done G.Nothing)) (and_then no_writes 0 (ring_word 0x80031)) (apart_n (held n 0 0 1 1 3 1 1))

  abbrev answered : Applied
  answered = replies (Ok (Done G.Yes)) (acknowledge_writes 0x20 0x27 true true) (apart_n (held n 0x20 1 1 1 3 1 1))

  abbrev counted : Applied
  counted = replies (Ok (Done (G.Event E.TransferActivity))) no_writes (apart_n (held n 0 0 0 0 3 1 0))

  abbrev ended : Applied
  ended = replies (Ok Cancelled) no_writes (free_n n)

  leaves_n : core (linked_n n) (cancels n) ≡ left
  unfolding apply_of decide_of asks_of rows_are_fit replied fill_of filled_from no_chain packed list_of cancel_decided cancel_of accepts_of endpoint_at decoded slot_at unlink_of waiting_of bounded_of unlinked_of ring_of detach_of predecessor_of search_from precedes_one with_endpoint with_slot with_bell state_of
  leaves_n = rw (g.linked_good_lem, g.same)

  hears_n : core (apart_n (held n 0 0 1 1 3 1 1)) (acknowledges 0x20) ≡ answered
  unfolding apply_of decide_of asks_of rows_are_fit replied fill_of filled_from no_chain packed list_of acknowledge_decided acknowledge_of only_bits with_bits any_of acknowledged_state noted_after with_interrupt with_bell state_of
  hears_n = rw g.left_good

  drains_n : core (apart_n (held n 0x20 1 1 1 3 1 1)) (Drain 0x80031) ≡ counted
  unfolding apply_of decide_of asks_of rows_are_fit replied fill_of filled_from no_chain packed list_of drain_decided drain_of any_of without_bits counted_of cleared_of with_interrupt with_bell with_boundaries advanced_of ring_of fallen_from fallen_one state_of
  drains_n = rw g.heard_good

  ends_n : core (apart_n (held n 0 0 0 0 3 1 0)) (collects n) ≡ ended
  unfolding apply_of decide_of asks_of rows_are_fit replied fill_of filled_from no_chain packed list_of collect_decided collect_of accepts_of endpoint_at decoded slot_at unlinking_of finish_of outcome_of freed clear_of ended_overlay put_at terminated with_owner with_endpoint with_slot state_of
  ends_n = rw (g.counted_good, g.same)

  submits_n : core (free_n n) again ≡ replies (Ok (Done (G.Id (n + 1)))) (writes_with (reading 0x80031)) (linked_n (n + 1))
  unfolding apply_of decide_of asks_of rows_are_fit replied fill_of filled_from no_chain packed list_of submit_decided submit_of accepts_of endpoint_at decoded slot_at ranges_good buffer_good free_count count_zero need_of chunk_count settled_submit accepted_with taken_for taken_places places_from mark_of state_with after_id with_owner with_endpoint with_slot linked_rows started_overlay overlay_token attached_ring setups_with record_at bare_at chunk_qtd new_qtd token_of page_slots with_next state_of
  submits_n = rw (g.free_good, g.more)

  -- and the next request is accepted
  next_given : thrice (free_n n) again ≡ in_threes (replies (Ok (Done (G.Id (n + 1)))) (writes_with (reading 0x80031)) (linked_n (n + 1)))
  next_given = ap in_threes submits_n

  abbrev ends : Script
  ends = (collects n, ended) ∷ (Drain 0x80031, counted) ∷ (acknowledges 0x20, answered) ∷ (cancels n, left) ∷ []

  abbrev goes_further : Script
  goes_further = (again, in_threes (replies (Ok (Done (G.Id (n + 1)))) (writes_with (reading 0x80031)) (linked_n (n + 1)))) ∷ ends

  goes_so : Follows thrice (linked_n n) goes_further
  goes_so = (next_given, (ends_n, (drains_n, (hears_n, (leaves_n, tt)))))

  module _ (cs : List Call) (e : world_of thrice w cs ≡ linked_n n) where
    round_world : world_of thrice w (round n cs) ≡ free_n n
    round_world = arrives thrice w cs (linked_n n) e ends goes_so.1

    round_due : next_id small 0 (past (round n cs)) ≡ next_id small 0 (past cs)
    unfolding next_id ring_walk walk_from
    round_due = ap (next_id small 0) (is_told thrice w cs (linked_n n) e ends goes_so.1)

    next_world : world_of thrice w (again ∷ round n cs) ≡ linked_n (n + 1)
    next_world = arrives thrice w cs (linked_n n) e goes_further goes_so

    next_due : next_id small 0 (past (again ∷ round n cs)) ≡ following (next_id small 0 (past cs))
    unfolding next_id ring_walk walk_from
    next_due = ap (next_id small 0) (is_told thrice w cs (linked_n n) e goes_further goes_so)

goods_two : Goods 2
unfolding state_of in_ranges rest_good machine_good interrupt_good doorbell_good owner_good largest slots_good slot_good size_kept toggle_kept size_good phase_good closed_good idle_good linked_good unlinking_good boundary_good open_kind no_request settings_good numbers_good each_good no_overlap area_good apart_areas slot_at without_bits
goods_two = record { same = refl; more = refl; linked_good_lem = refl; left_good = refl; heard_good = refl; counted_good = refl; free_good = refl }

goods_three : Goods 3
unfolding state_of in_ranges rest_good machine_good interrupt_good doorbell_good owner_good largest slots_good slot_good size_kept toggle_kept size_good phase_good closed_good idle_good linked_good unlinking_good boundary_good open_kind no_request settings_good numbers_good each_good no_overlap area_good apart_areas slot_at without_bits
goods_three = record { same = refl; more = refl; linked_good_lem = refl; left_good = refl; heard_good = refl; counted_good = refl; free_good = refl }

-- ---- four requests

abbrev c3 : List Call
c3 = again ∷ round 2 c2

abbrev ready : List Call
ready = round 3 c3

third : world_of thrice w c3 ≡ linked_n 3
third = next_world 2 goods_two c2 (arrives thrice w up_calls opened_two up second second_so)

fourth_due : next_id small 0 (past ready) ≡ following (following (following (next_id small 0 (past up_calls))))
fourth_due =
    round_due 3 goods_three c3 third ∙ next_due 2 goods_two c2 (arrives thrice w up_calls opened_two up second second_so) ∙ ap following second_due

-- the first is given 1, and the fourth too
pub thrice_ids : EveryRun IdsInTurn thrice → ⊥
thrice_ids ids =
    let first : event small (turn_by (moment thrice (world_of thrice w up_calls)) (submits 0 0x500000)) ≡ Submits 0 1 (request 0x500000)
    = ap (λ (x : World). event small (turn_by (moment thrice x) (submits 0 0x500000))) up ∙ ap (λ (a : Applied). event small (turn_of opened_two.rows (submits 0 0x500000) a)) submits_one_lem in
    let fourth : event small (turn_by (moment thrice (world_of thrice w ready)) again) ≡ Submits 0 1 (request 0x502000)
    = ap (λ (x : World). event small (turn_by (moment thrice x) again)) (round_world 3 goods_three c3 third)
    ∙ ap (λ (a : Applied). event small (turn_of (free_n 3).rows again a)) (next_given 3 goods_three) in
    let begins : 1 ≡ next_id small 0 (past up_calls) = ids small w opening up_calls (submits 0 0x500000) 0 1 (request 0x500000) first in
    let ends : 1 ≡ next_id small 0 (past ready) = ids small w opening ready again 0 1 (request 0x502000) fourth in
    omega (arith, ends ∙ fourth_due ∙ ap (λ (k : ℕ). following (following (following k))) (sym begins))

-- ---- every cancel and collect is answered 0

abbrev pub obliging : Machine in_plain
obliging = but (λ x a. is_leaves a) (λ x a. answering (Ok (Done G.Nothing)) a)

pub obliging_cancels : EveryRun CancelsById obliging → ⊥
unfolding history_of world_of uses
obliging_cancels by_id =
    let none : ◌≡◌ {A = ℕ} 0 3 = by_id small w opening [] 0 1 (reading 0x80031) in
    omega (arith, none)

pub obliging_collects : EveryRun CollectsById obliging → ⊥
unfolding history_of world_of slot_in
obliging_collects by_id =
    let none : ◌≡◌ {A = ℕ} 0 3 = (by_id small w opening [] 0 1 (reading 0x80031)).not_open refl in
    omega (arith, none)
