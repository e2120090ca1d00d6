-- A note that stays where a port change shares the drain is counted again: of `twice` the boundary is not kept, and a place is given too soon.
use Rattle.std.specs.Prelude.{Ok}
use mathlib.Core.Path.{◌≡◌, refl, sym, ap, subst, ◌∙◌}
use mathlib.Core.Bool.{true, false, true≢false, false≢true}
use mathlib.Core.List.{[], ◌∷◌}
use Rattle.register.specs.Bits.{any_of, with_bits}
use Rattle.register.specs.Writes.{and_then, no_writes}
use Rattle.state.specs.Slots.{slot_at}
use Rattle.state.specs.State.{with_bell}
use Rattle.pipe.specs.Endpoints.{decoded, endpoint_at}
use Rattle.common.specs.Kinds.{is_interrupt}
use Rattle.schedule.specs.Bell.{ring_word}
use Rattle.interrupt.specs.Interrupts.{acknowledge_writes}
use Rattle.ehci.specs.declared.call.Call.{Call}
use Rattle.ehci.specs.declared.call.Call.TheVariants.{Collect, Drain}
use Rattle.ehci.specs.declared.reply.Answered.TheVariants.{Done, Cancelled}
use Rattle.ehci.specs.declared.reply.Given.TheVariants as G
use Rattle.interrupt.specs.declared.answers.Event.TheVariants as E
use Rattle.ehci.specs.Door.{Applied}
use Rattle.promises.specs.Runs.{EveryRun, History, World, history_of, rows_of, run_of, turn_of, world_of}
use Rattle.promises.specs.Walks.{chain_walk, is_in, ring_walk, walk_from}
use Rattle.promises.specs.Events.{Submits, event, is_collected, rings}
use Rattle.promises.specs.Bells.{kind_at, unlinking}
use Rattle.promises.specs.Boundaries.{BoundaryKept, OneCount, OnlyAnswered, Passes, turn}
use Rattle.promises.specs.Faults.{NeverGiven, holds, may_read}
use Rattle.promises.proofs.invariants.Reached.{fresh_world}
use Rattle.refutations.proofs.WrongRuns.{one, opened_two, opening, reading, replies, request, small, state_of, submits, two, waits}
use Rattle.refutations.proofs.WrongUp.{plain_rises, up_world, up_calls}
use Rattle.refutations.proofs.WrongCalls.{again_second, apart_two, collected_second, drained_first, drained_second, free_second, heard_two, submitted, submitted_second, submitted_two, unlinked_first, unlinked_second, hears_two}
use Rattle.refutations.proofs.WrongBut.{not_passed}
use Rattle.refutations.proofs.WrongBells.{boundary?, found, note_after, twice, twice_plainly}
use Rattle.refutations.proofs.Scripts.{Follows, Script, arrives, calls_of, end_of, is_told, turns_of}

abbrev w : World
w = fresh_world small

abbrev now : Script → World
now xs = world_of twice w (calls_of up_calls xs)

abbrev past : Script → History
past xs = history_of twice w (calls_of up_calls xs)

-- the drain rings for the second request; then a second drain, and its collect
abbrev rung : Applied
rung = replies (Ok (Done (G.Event E.PortChange))) (and_then no_writes 0 (ring_word 0x80031)) (apart_two (two 0x20 0x24 1 1 1 (waits 0) (waits 1)))

abbrev s6 : Script
s6 = (Drain 0x80031, rung) ∷ hears_two

abbrev shared : Script
shared = (Drain 0x80031, replies (Ok (Done (G.Event E.TransferActivity))) no_writes (apart_two (two 0 0x24 0 0 0 (waits 0) (waits 0)))) ∷ s6

abbrev after : Script
after = (Collect 1 1 (reading 0x80031), replies (Ok Cancelled) no_writes free_second) ∷ shared

-- the note stays
drains_first : twice (apart_two (two 0x24 0x24 1 1 2 (waits 1) (waits 2))) (Drain 0x80031) ≡ rung
unfolding state_of with_bell any_of
drains_first = ap (note_after true) drained_first

drains_second : twice (apart_two (two 0x20 0x24 1 1 1 (waits 0) (waits 1))) (Drain 0x80031)
    ≡ replies (Ok (Done (G.Event E.TransferActivity))) no_writes (apart_two (two 0 0x24 0 0 0 (waits 0) (waits 0)))
unfolding state_of with_bell any_of
drains_second = drained_second

up : world_of twice w up_calls ≡ opened_two
up = up_world twice (plain_rises twice twice_plainly)

follows : Follows twice opened_two after
follows = (collected_second, (drains_second, (drains_first, (heard_two, (unlinked_second, (unlinked_first, (submitted_two, (submitted, tt))))))))

w5 : now hears_two ≡ end_of opened_two hears_two
w5 = arrives twice w up_calls opened_two up hears_two follows.1.1.1

w6 : now s6 ≡ end_of opened_two s6
w6 = arrives twice w up_calls opened_two up s6 follows.1.1

w7 : now shared ≡ end_of opened_two shared
w7 = arrives twice w up_calls opened_two up shared follows.1

w8 : now after ≡ free_second
w8 = arrives twice w up_calls opened_two up after follows

abbrev told : History
told = turns_of opened_two (history_of twice w up_calls) shared

is_so : past shared ≡ told
is_so = is_told twice w up_calls opened_two up shared follows.1

abbrev told_after : History
told_after = turns_of opened_two (history_of twice w up_calls) after

is_so_after : past after ≡ told_after
is_so_after = is_told twice w up_calls opened_two up after follows

-- ---- refuted

bulk : is_interrupt (kind_at small 1 told) ≡ false
unfolding kind_at ring_walk walk_from
bulk = refl

no_boundary : boundary? small 1 told ≡ false
unfolding ring_walk walk_from no_writes
no_boundary = refl

pub twice_boundary : EveryRun BoundaryKept twice → ⊥
twice_boundary kept =
    let done : is_collected (twice (now shared) (Collect 1 1 (reading 0x80031))).reply.answer ≡ true
    = ap (λ (x : World). is_collected (twice x (Collect 1 1 (reading 0x80031))).reply.answer) w7 ∙ ap (λ (a : Applied). is_collected a.reply.answer) collected_second in
    let kind : is_interrupt (kind_at small 1 (past shared)) ≡ false = ap (λ (h : History). is_interrupt (kind_at small 1 h)) is_so ∙ bulk in
    let b = (kept small w opening (calls_of up_calls shared) 1 1 (reading 0x80031) done kind).1 in
    true≢false (sym (found small 1 (past shared) b) ∙ (ap (boundary? small 1) is_so ∙ no_boundary))

still_read : may_read small 1 told_after ≡ true
unfolding may_read holds history_of ring_walk walk_from chain_walk no_writes and_then ring_word with_bits acknowledge_writes
still_read = refl

given : is_in 1 (chain_walk small again_second.rows 1) ≡ true
unfolding chain_walk walk_from
given = refl

pub twice_gives : EveryRun NeverGiven twice → ⊥
twice_gives never =
    let again : Call = submits 1 0x502000 in
    let accepted : event small (turn_of (now after).rows again (twice (now after) again)) ≡ Submits 1 2 (request 0x502000)
    = ap (λ (x : World). event small (turn_of x.rows again (twice x again))) w8 ∙ ap (λ (a : Applied). event small (turn_of free_second.rows again a)) submitted_second in
    let met : is_in 1 (chain_walk small (rows_of (twice (now after) again)) 1) ≡ true
    = ap (λ (x : World). is_in 1 (chain_walk small (rows_of (twice x again)) 1)) w8 ∙ ap (λ (a : Applied). is_in 1 (chain_walk small (rows_of a) 1)) submitted_second ∙ given in
    true≢false (sym (ap (may_read small 1) is_so_after ∙ still_read) ∙ never small w opening (calls_of up_calls after) again 1 2 (request 0x502000) 1 accepted met)

-- ---- counted again with no acknowledgment since the ring

out_of_ring : unlinking small 1 told ≡ true
unfolding unlinking ring_walk walk_from
out_of_ring = refl

rings_again : rings (turn_of (apart_two (two 0x24 0x24 1 1 2 (waits 1) (waits 2))).rows (Drain 0x80031) rung) ≡ true
unfolding and_then no_writes ring_word with_bits
rings_again = refl

-- the second request does not pass after the drain that rings, and passes after the next
not_before : Passes small (run_of twice w) (calls_of up_calls s6) 1 → ⊥
unfolding state_of endpoint_at decoded slot_at
not_before p = not_passed (apart_two (two 0x20 0x24 1 1 1 (waits 0) (waits 1))) 1 p.1 p.2 refl (subst (λ (x : World). is_collected (twice x (Collect 1 p.1 p.2)).reply.answer ≡ true) w6 p.3)

passes_after : Passes small (run_of twice w) (calls_of up_calls shared) 1
passes_after = (
  ap (unlinking small 1) is_so ∙ out_of_ring,
  1,
  reading 0x80031,
  ap (λ (x : World). is_collected (twice x (Collect 1 1 (reading 0x80031))).reply.answer) w7 ∙ ap (λ (a : Applied). is_collected a.reply.answer) collected_second,
)

rang : rings (turn small (run_of twice w) (calls_of up_calls hears_two) (Drain 0x80031)) ≡ true
rang =
    ap (λ (x : World). rings (turn_of x.rows (Drain 0x80031) (twice x (Drain 0x80031)))) w5
    ∙ ap (λ (a : Applied). rings (turn_of (apart_two (two 0x24 0x24 1 1 2 (waits 1) (waits 2))).rows (Drain 0x80031) a)) drains_first ∙ rings_again

pub twice_unanswered : EveryRun OnlyAnswered twice → ⊥
twice_unanswered only = false≢true (only small w opening (calls_of up_calls hears_two) [] (Drain 0x80031) (Drain 0x80031) 1 rang tt not_before passes_after)

pub twice_once : EveryRun OneCount twice → ⊥
twice_once one = false≢true ((one small w opening).one_answered (calls_of up_calls hears_two) [] (Drain 0x80031) (Drain 0x80031) 1 1 rang tt not_before not_before passes_after passes_after).1
