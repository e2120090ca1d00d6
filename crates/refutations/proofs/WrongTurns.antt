-- Machines that do not ring for an unlink, that accept a second request, or that let two requests pass for one count: what is said of unlinks, events
-- and rings refuted.
use Rattle.std.specs.Prelude.{Ok}
use Prim.Native.Nat.{ℕ}
use mathlib.Core.Bool.{true, false, true≢false}
use mathlib.Core.List.{List, [], ◌∷◌}
use mathlib.Core.Path.{◌≡◌, refl, sym, ap, subst, ◌∙◌}
use native.Mathlib.Omega.{arith}
use lib.Dec.{ltb}
use lib.ListN.{replicate}
use Rattle.register.specs.Bits.{with_bits, without_bits}
use Rattle.register.specs.Writes.{and_then, no_writes, write_of}
use Rattle.state.specs.Slots.{slot_at}
use Rattle.state.specs.State.{with_boundaries}
use Rattle.state.specs.Ranges.{in_ranges}
use Rattle.pipe.specs.Endpoints.{decoded, endpoint_at}
use Rattle.opening.specs.Opening.{rows_are_fit}
use Rattle.controller.specs.Lent.{accepts_of}
use Rattle.collection.specs.Answers.{outcome_of}
use Rattle.collection.specs.Calls.{collect_of, finish_of, unlinking_of}
use Rattle.schedule.specs.Bell.{command_word, ring_word}
use Rattle.ehci.specs.declared.call.Call.{Call}
use Rattle.ehci.specs.declared.call.Call.TheVariants.{Cancel, Collect, Drain}
use Rattle.ehci.specs.declared.reply.Answered.TheVariants.{Done}
use Rattle.interrupt.specs.declared.answers.Event.TheVariants as E
use Rattle.ehci.specs.declared.reply.Given.TheVariants as G
use Rattle.ehci.specs.Replies.{replied}
use Rattle.ehci.specs.Decides.{asks_of, collect_decided, decide_of}
use Rattle.ehci.specs.Door.{Applied, applied, apply_of}
use Rattle.promises.specs.Runs.{EveryRun, History, Machine, World, in_plain, core, history_of, run_of, world_of}
use Rattle.promises.specs.Walks.{ring_walk, walk_from}
use Rattle.promises.specs.Events.{is_collected}
use Rattle.promises.specs.Bells.{asked, bell, counted, is_up, linked as is_linked, unlinking}
use Rattle.promises.specs.Boundaries.{OnePasses, Orderly, Passes, UpExactly}
use Rattle.promises.specs.Registers.{Access}
use Rattle.promises.proofs.invariants.Reached.{fresh_world}
use Rattle.refutations.proofs.WrongRuns.{good, linked, one, opened_two, opening, reading, replies, small, state_of, submits, two, waits}
use Rattle.refutations.proofs.WrongUp.{up_world, up_calls}
use Rattle.refutations.proofs.WrongCalls.{apart_one, apart_two, drained_first, heard_two, linked_one, submitted, submitted_two, unlinked_first, unlinked_second, hears_two, submits_one}
use Rattle.refutations.proofs.WrongBut.{but, but_rises, is_drains, is_leaves, is_submits, not_passed, rewriting}
use Rattle.refutations.proofs.WrongNever.{leaves}
use Rattle.refutations.proofs.Scripts.{Follows, Script, arrives, calls_of, end_of, is_told, turns_of}

abbrev w : World
w = fresh_world small

-- ---- an unlink does not ring

abbrev hushed : Applied → Applied
hushed a = rewriting (λ y. write_of y.offset 0) a

abbrev pub mute : Machine in_plain
mute = but (λ x a. is_leaves a) (λ x a. hushed a)

mute_up_lem : world_of mute w up_calls ≡ opened_two
mute_up_lem = up_world mute (but_rises (λ (x : World) (a : Access). is_leaves a) (λ (x : World) (a : Applied). hushed a) (λ x. refl) (λ x n. refl) (λ x v. refl))

mute_leaves : mute (linked_one (one 0 0 0 0 0 linked)) (Cancel 0 1 (reading 0x80031)) ≡ hushed (replies (Ok (Done G.Nothing)) (and_then no_writes 0 (ring_word 0x80031)) (apart_one (one 0 0 0 1 1 (waits 1))))
mute_leaves = ap hushed leaves

abbrev mute_run : Script
mute_run = (Cancel 0 1 (reading 0x80031), hushed (replies (Ok (Done G.Nothing)) (and_then no_writes 0 (ring_word 0x80031)) (apart_one (one 0 0 0 1 1 (waits 1))))) ∷ submits_one

abbrev mute_up : History
mute_up = history_of mute w up_calls

abbrev mute_told : History
mute_told = turns_of opened_two mute_up mute_run

mute_told_lem : history_of mute w (calls_of up_calls mute_run) ≡ mute_told
mute_told_lem = is_told mute w up_calls opened_two mute_up_lem mute_run (mute_leaves, (submitted, tt))

-- the bell is as it was on the way up, and an unlink is unanswered
still_quiet : bell small mute_told ≡ bell small mute_up
unfolding bell ring_walk walk_from and_then no_writes command_word with_bits without_bits
still_quiet = refl

one_owed : ltb (counted small mute_told) (asked small mute_told) ≡ true
unfolding counted asked history_of ring_walk walk_from
one_owed = refl

none_owed : ltb (counted small mute_up) (asked small mute_up) ≡ false
unfolding counted asked history_of
none_owed = refl

pub mute_up_exactly : EveryRun UpExactly mute → ⊥
mute_up_exactly up =
    let before : is_up (bell small mute_up) ≡ false = (up small w opening up_calls).2 ∙ none_owed in
    let after : is_up (bell small mute_told) ≡ true = subst (λ (h : History). is_up (bell small h) ≡ ltb (counted small h) (asked small h)) mute_told_lem (up small w opening (calls_of up_calls mute_run)).2 ∙ one_owed in
    true≢false (sym after ∙ ap is_up still_quiet ∙ before)

-- ---- every submit is answered 0

abbrev pub grants : Machine in_plain
grants = but (λ x a. is_submits a) (λ x a. replies (Ok (Done (G.Id 1))) no_writes x)

pub grants_orderly : EveryRun Orderly grants → ⊥
unfolding history_of world_of is_linked
grants_orderly orderly = true≢false ((orderly small w opening (submits 0 0x500000 ∷ []) (submits 0 0x500000) 0).2 refl).0

-- ---- one count lets every request pass

abbrev loosened : Applied → Applied
loosened a =
    applied (record { state = with_boundaries a.reply.state (replicate 32 0); answer = a.reply.answer; writes = a.reply.writes }) a.pool a.heads a.frames a.setups

abbrev pub lax : Machine in_plain
lax = but (λ x a. is_drains a) (λ x a. loosened a)

lax_up : world_of lax w up_calls ≡ opened_two
lax_up = up_world lax (but_rises (λ (x : World) (a : Access). is_drains a) (λ (x : World) (a : Applied). loosened a) (λ x. refl) (λ x n. refl) (λ x v. refl))

-- both wait for nothing any more
abbrev loose : World
loose = apart_two (two 0x20 0x24 0 1 1 (waits 0) (waits 0))

lax_drains : lax (apart_two (two 0x24 0x24 1 1 2 (waits 1) (waits 2))) (Drain 0x80031) ≡ replies (Ok (Done (G.Event E.PortChange))) (and_then no_writes 0 (ring_word 0x80031)) loose
unfolding with_boundaries state_of
lax_drains = ap loosened drained_first

abbrev loosens : Script
loosens = (Drain 0x80031, replies (Ok (Done (G.Event E.PortChange))) (and_then no_writes 0 (ring_word 0x80031)) loose) ∷ hears_two

follows : Follows lax opened_two loosens
follows = (lax_drains, (heard_two, (unlinked_second, (unlinked_first, (submitted_two, (submitted, tt))))))

abbrev c5 : List Call
c5 = calls_of up_calls hears_two

abbrev c6 : List Call
c6 = calls_of up_calls loosens

w5 : world_of lax w c5 ≡ end_of opened_two hears_two
w5 = arrives lax w up_calls opened_two lax_up hears_two follows.1

w6 : world_of lax w c6 ≡ loose
w6 = arrives lax w up_calls opened_two lax_up loosens follows

-- ---- who passes

abbrev turns : History
turns = turns_of opened_two (history_of lax w up_calls) loosens

told : history_of lax w c6 ≡ turns
told = is_told lax w up_calls opened_two lax_up loosens follows

both_out : (unlinking small 0 turns ≡ true) × (unlinking small 1 turns ≡ true)
unfolding unlinking ring_walk walk_from
both_out = (refl, refl)

loose_good : in_ranges (two 0x20 0x24 0 1 1 (waits 0) (waits 0)) ≡ true
loose_good = good 15

both_collected : (is_collected (core loose (Collect 0 1 (reading 0x80031))).reply.answer ≡ true) × (is_collected (core loose (Collect 1 1 (reading 0x80031))).reply.answer ≡ true)
unfolding apply_of decide_of asks_of rows_are_fit replied collect_decided collect_of accepts_of endpoint_at decoded slot_at unlinking_of finish_of outcome_of state_of
both_collected = (rw loose_good, rw loose_good)

not_first : Passes small (run_of lax w) c5 0 → ⊥
unfolding state_of endpoint_at decoded slot_at
not_first p = not_passed (apart_two (two 0x24 0x24 1 1 2 (waits 1) (waits 2))) 0 p.1 p.2 refl (subst (λ (x : World). is_collected (lax x (Collect 0 p.1 p.2)).reply.answer ≡ true) w5 p.3)

not_second : Passes small (run_of lax w) c5 1 → ⊥
unfolding state_of endpoint_at decoded slot_at
not_second p = not_passed (apart_two (two 0x24 0x24 1 1 2 (waits 1) (waits 2))) 1 p.1 p.2 refl (subst (λ (x : World). is_collected (lax x (Collect 1 p.1 p.2)).reply.answer ≡ true) w5 p.3)

pub lax_passes : EveryRun OnePasses lax → ⊥
lax_passes one =
    let first : Passes small (run_of lax w) c6 0 = (
      ap (unlinking small 0) told ∙ both_out.0,
      1,
      reading 0x80031,
      ap (λ (x : World). is_collected (lax x (Collect 0 1 (reading 0x80031))).reply.answer) w6 ∙ both_collected.0,
    ) in
    let second : Passes small (run_of lax w) c6 1 = (
      ap (unlinking small 1) told ∙ both_out.1,
      1,
      reading 0x80031,
      ap (λ (x : World). is_collected (lax x (Collect 1 1 (reading 0x80031))).reply.answer) w6 ∙ both_collected.1,
    ) in
    let same : ◌≡◌ {A = ℕ} 0 1 = one small w opening c5 [] (Drain 0x80031) 0 1 tt not_first not_second first second in
    omega (arith, same)
