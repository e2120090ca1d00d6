-- A machine that never counts an advance: what 01 lets pass does not pass, so the exact rule is refuted.
use Rattle.std.specs.Prelude.{Ok}
use Prim.Native.Nat.{◌+◌, ◌≤◌}
use mathlib.Core.Path.{◌≡◌, refl, sym, ap, subst, ◌∙◌}
use mathlib.Core.Bool.{true, false, false≢true}
use mathlib.Core.List.{List, [], ◌∷◌}
use lib.ListN.{take}
use Rattle.register.specs.Bits.{any_of, only_bits, with_bits, without_bits}
use Rattle.register.specs.Writes.{and_then, no_writes}
use Rattle.descriptor.specs.Descriptors.{terminated}
use Rattle.pool.specs.Chains.{fill_of, filled_from, no_chain}
use Rattle.pool.specs.Places.{clear_of, list_of, packed}
use Rattle.state.specs.Ranges.{in_ranges, doorbell_good, interrupt_good, largest, machine_good, owner_good, rest_good, slots_good}
use Rattle.state.specs.Slots.{slot_at, with_slot}
use Rattle.state.specs.State.{with_bell, with_boundaries, with_interrupt, with_owner}
use Rattle.pipe.specs.Endpoints.{decoded, endpoint_at, with_endpoint}
use Rattle.opening.specs.Opening.{rows_are_fit}
use Rattle.common.specs.Rows.{put_at}
use Rattle.controller.specs.Lent.{accepts_of}
use Rattle.schedule.specs.Bell.{advanced_of, fallen_from, fallen_one, ring_of, ring_word, unlinked_of}
use Rattle.schedule.specs.Links.{detach_of, ended_overlay, precedes_one, predecessor_of, search_from}
use Rattle.collection.specs.Unlinks.{bounded_of, unlink_of, waiting_of}
use Rattle.collection.specs.Calls.{cancel_of, collect_of, finish_of, freed, unlinking_of}
use Rattle.collection.specs.Answers.{outcome_of}
use Rattle.interrupt.specs.Interrupts.{acknowledge_of, acknowledge_writes, acknowledged_state, counted_of, drain_of, noted_after, cleared_of}
use Rattle.ehci.specs.declared.call.Call.{Call}
use Rattle.ehci.specs.declared.call.Call.TheVariants.{Cancel, Collect, Drain}
use Rattle.ehci.specs.declared.reply.Answered.TheVariants.{Done, Pending}
use Rattle.ehci.specs.declared.reply.Given.TheVariants as G
use Rattle.interrupt.specs.declared.answers.Event.TheVariants as E
use Rattle.ehci.specs.Replies.{replied}
use Rattle.ehci.specs.Decides.{acknowledge_decided, asks_of, cancel_decided, collect_decided, decide_of, drain_decided}
use Rattle.ehci.specs.Door.{Applied, apply_of}
use Rattle.promises.specs.Runs.{EveryRun, History, Machine, World, in_plain, core, history_of, run_of, turn_of, world_of}
use native.Mathlib.Omega.{arith}
use Rattle.settings.specs.Settings.{apart_areas, area_good, each_good, no_overlap, numbers_good, settings_good}
use Rattle.slot.specs.Ranges.{boundary_good, closed_good, idle_good, linked_good, no_request, open_kind, phase_good, slot_good, unlinking_good, size_good, size_kept, toggle_kept}
use Rattle.common.specs.Kinds.{is_interrupt}
use Rattle.promises.specs.Walks.{ring_walk, walk_from}
use Rattle.promises.specs.Events.{is_collected}
use Rattle.promises.specs.Bells.{asked, bell, collects, counted, kind_at, newest_id, none, number, unlinking, unlinks_of}
use Rattle.promises.specs.Boundaries.{Exact, Passes, Waits, turn}
use Rattle.promises.proofs.invariants.Reached.{fresh_world}
use Rattle.refutations.proofs.WrongRuns.{acknowledges, linked, one, opened_two, opening, reading, replies, small, state_of, waits}
use Rattle.refutations.proofs.WrongUp.{Plainly, is_drain, plain_rises, up_world, up_calls}
use Rattle.refutations.proofs.WrongCalls.{apart_one, linked_one, submitted, submits_one}
use Rattle.refutations.proofs.WrongBut.{not_passed}
use Rattle.refutations.proofs.WrongBells.{note_before}
use Rattle.refutations.proofs.Scripts.{Follows, Script, arrives, calls_of, is_told, turns_of}

-- no advance is ever counted
abbrev pub never : Machine in_plain
never w c = core (note_before (is_drain c) 0 w) c

never_plainly : Plainly never
never_plainly w c d r n = rw d

states_good_lem : (in_ranges (one 0 0 0 0 0 linked) ≡ true) × (in_ranges (one 0 0 0 1 1 (waits 1)) ≡ true) × (in_ranges (one 0x20 0x20 0 1 1 (waits 1)) ≡ true) × (in_ranges (one 0 0x20 0 1 1 (waits 1)) ≡ true)
unfolding state_of in_ranges rest_good machine_good interrupt_good doorbell_good owner_good largest slots_good slot_good size_kept toggle_kept size_good phase_good closed_good idle_good linked_good unlinking_good boundary_good open_kind no_request settings_good numbers_good each_good no_overlap area_good apart_areas slot_at without_bits
states_good_lem = (refl, refl, refl, refl)

abbrev w : World
w = fresh_world small

pub leaves : core (linked_one (one 0 0 0 0 0 linked)) (Cancel 0 1 (reading 0x80031)) ≡ replies (Ok (Done G.Nothing)) (and_then no_writes 0 (ring_word 0x80031)) (apart_one (one 0 0 0 1 1 (waits 1)))
unfolding apply_of decide_of asks_of rows_are_fit replied fill_of filled_from no_chain packed list_of cancel_decided cancel_of accepts_of endpoint_at decoded slot_at unlink_of waiting_of bounded_of unlinked_of ring_of detach_of predecessor_of search_from precedes_one with_endpoint with_slot with_bell state_of
leaves = rw states_good_lem.0

pub hears : core (apart_one (one 0 0 0 1 1 (waits 1))) (acknowledges 0x20) ≡ replies (Ok (Done G.Yes)) (acknowledge_writes 0x20 0x27 true true) (apart_one (one 0x20 0x20 1 1 1 (waits 1)))
unfolding apply_of decide_of asks_of rows_are_fit replied fill_of filled_from no_chain packed list_of acknowledge_decided acknowledge_of only_bits with_bits any_of acknowledged_state noted_after with_interrupt with_bell state_of
hears = rw states_good_lem.1

passes : core (apart_one (one 0x20 0x20 0 1 1 (waits 1))) (Drain 0x80031) ≡ replies (Ok (Done (G.Event E.TransferActivity))) no_writes (apart_one (one 0 0x20 0 1 1 (waits 1)))
unfolding apply_of decide_of asks_of rows_are_fit replied fill_of filled_from no_chain packed list_of drain_decided drain_of any_of without_bits counted_of cleared_of with_interrupt with_bell with_boundaries advanced_of ring_of fallen_from fallen_one state_of
passes = rw states_good_lem.2

waits_on : core (apart_one (one 0 0x20 0 1 1 (waits 1))) (Collect 0 1 (reading 0x80031)) ≡ replies (Ok Pending) no_writes (apart_one (one 0 0x20 0 1 1 (waits 1)))
unfolding apply_of decide_of asks_of rows_are_fit replied fill_of filled_from no_chain packed list_of collect_decided collect_of accepts_of endpoint_at decoded slot_at unlinking_of finish_of outcome_of freed clear_of ended_overlay put_at terminated with_owner with_endpoint with_slot state_of
waits_on = rw states_good_lem.3

never_counts : never (apart_one (one 0x20 0x20 1 1 1 (waits 1))) (Drain 0x80031) ≡ replies (Ok (Done (G.Event E.TransferActivity))) no_writes (apart_one (one 0 0x20 0 1 1 (waits 1)))
unfolding state_of with_bell
never_counts = passes

-- one request is unlinked, which rings
abbrev pub leaves_one : Script
leaves_one = (Cancel 0 1 (reading 0x80031), replies (Ok (Done G.Nothing)) (and_then no_writes 0 (ring_word 0x80031)) (apart_one (one 0 0 0 1 1 (waits 1)))) ∷ submits_one

-- the answer
abbrev pub hears_one : Script
hears_one = (acknowledges 0x20, replies (Ok (Done G.Yes)) (acknowledge_writes 0x20 0x27 true true) (apart_one (one 0x20 0x20 1 1 1 (waits 1)))) ∷ leaves_one

abbrev drains_one : Script
drains_one = (Drain 0x80031, replies (Ok (Done (G.Event E.TransferActivity))) no_writes (apart_one (one 0 0x20 0 1 1 (waits 1)))) ∷ hears_one

abbrev c1 : List Call
c1 = calls_of up_calls submits_one

abbrev answered : List Call
answered = calls_of up_calls drains_one

up : world_of never w up_calls ≡ opened_two
up = up_world never (plain_rises never never_plainly)

follows : Follows never opened_two drains_one
follows = (never_counts, (hears, (leaves, (submitted, tt))))

w1 : world_of never w c1 ≡ linked_one (one 0 0 0 0 0 linked)
w1 = arrives never w up_calls opened_two up submits_one (submitted, tt)

w4 : world_of never w answered ≡ apart_one (one 0 0x20 0 1 1 (waits 1))
w4 = arrives never w up_calls opened_two up drains_one follows

abbrev told : History
told = turns_of opened_two (history_of never w up_calls) drains_one

is_so : history_of never w answered ≡ told
is_so = is_told never w up_calls opened_two up drains_one follows

-- by the history its advance is counted
by_history : (is_interrupt (kind_at small 0 told) ≡ false) × (unlinking small 0 told ≡ true) × (newest_id small 0 told ≡ 1) × (number small 0 told ≡ 1) × (counted small told ≡ 1)
unfolding kind_at unlinking newest_id number counted asked bell history_of ring_walk walk_from no_writes and_then ring_word with_bits acknowledge_writes
by_history = (refl, refl, refl, refl, refl)

pub never_exact : EveryRun Exact never → ⊥
never_exact exact =
    let h = history_of never w answered in
    let kind : is_interrupt (kind_at small 0 h) ≡ false = ap (λ (x : History). is_interrupt (kind_at small 0 x)) is_so ∙ by_history.0 in
    let off : unlinking small 0 h ≡ true = ap (unlinking small 0) is_so ∙ by_history.1 in
    let id : 1 ≡ newest_id small 0 h = sym (ap (newest_id small 0) is_so ∙ by_history.2) in
    let reached : number small 0 h ≤ counted small h = omega (arith, ap (number small 0) is_so ∙ by_history.3, ap (counted small) is_so ∙ by_history.4) in
    let done = ((exact small w opening answered 0 1 (reading 0x80031)).0 kind).1 (off, id, reached) in
    let pending : is_collected (never (world_of never w answered) (Collect 0 1 (reading 0x80031))).reply.answer ≡ false
    = ap (λ (x : World). is_collected (never x (Collect 0 1 (reading 0x80031))).reply.answer) w4 ∙ ap (λ (a : Applied). is_collected a.reply.answer) waits_on in
    false≢true (sym pending ∙ done)

-- ---- order 13: n + 1 advances are counted, and its request does not pass

left_the_ring : unlinks_of small 0 (turn_of (linked_one (one 0 0 0 0 0 linked)).rows (Cancel 0 1 (reading 0x80031)) (replies (Ok (Done G.Nothing)) (and_then no_writes 0 (ring_word 0x80031)) (apart_one (one 0 0 0 1 1 (waits 1))))) ≡ true
unfolding ring_walk walk_from
left_the_ring = refl

abbrev first : History
first = turns_of opened_two (history_of never w up_calls) submits_one

none_owed : asked small first ≡ counted small first + 0
unfolding counted asked history_of
none_owed = refl

none_counted : counted small first ≡ 0
unfolding counted history_of
none_counted = refl

begun : history_of never w c1 ≡ first
begun = is_told never w up_calls opened_two up submits_one (submitted, tt)

not_collectable : Passes small (run_of never w) answered 0 → ⊥
unfolding state_of endpoint_at decoded slot_at
not_collectable p = not_passed (apart_one (one 0 0x20 0 1 1 (waits 1))) 0 p.1 p.2 refl (subst (λ (x : World). is_collected (never x (Collect 0 p.1 p.2)).reply.answer ≡ true) w4 p.3)

pub never_waits : EveryRun Waits never → ⊥
never_waits waits =
    let c : Call = Cancel 0 1 (reading 0x80031) in
    let goes : unlinks_of small 0 (turn small (run_of never w) c1 c) ≡ true
    = ap (λ (x : World). unlinks_of small 0 (turn_of x.rows c (never x c))) w1
    ∙ ap (λ (a : Applied). unlinks_of small 0 (turn_of (linked_one (one 0 0 0 0 0 linked)).rows c a)) leaves ∙ left_the_ring in
    let owed : asked small (history_of never w c1) ≡ counted small (history_of never w c1) + 0 = subst (λ (h : History). asked small h ≡ counted small h + 0) (sym begun) none_owed in
    let uncollected : none (collects small 0) (take 2 (history_of never w answered)) = subst (λ (h : History). none (collects small 0) (take 2 h)) (sym is_so) (refl, (refl, tt)) in
    not_collectable
    (((waits small w opening c1 (Drain 0x80031 ∷ acknowledges 0x20 ∷ []) c 0 0 goes owed).1 uncollected).1
    (omega (arith, ap (counted small) begun ∙ none_counted, ap (counted small) is_so ∙ by_history.4)))
