-- An advance that was read before the ring is counted after it: of `early` and `any` the boundary is not kept, and a place is given too soon.
use Rattle.std.specs.Prelude.{Ok}
use Prim.Native.Nat.{ℕ}
use mathlib.Core.Path.{◌≡◌, refl, sym, ap, ◌∙◌}
use mathlib.Core.Bool.{true, false, true≢false}
use mathlib.Core.List.{List, ◌∷◌}
use Rattle.register.specs.Bits.{any_of, with_bits}
use Rattle.register.specs.Writes.{and_then, no_writes}
use Rattle.state.specs.State.{with_bell}
use Rattle.common.specs.Kinds.{is_interrupt}
use Rattle.schedule.specs.Bell.{ring_word}
use Rattle.request.specs.Submit.{writes_with}
use Rattle.interrupt.specs.Interrupts.{acknowledge_writes}
use Rattle.ehci.specs.declared.call.Call.{Call}
use Rattle.ehci.specs.declared.call.Call.TheVariants.{Cancel, Collect, Drain}
use Rattle.ehci.specs.declared.reply.Answered.TheVariants.{Done, Cancelled}
use Rattle.ehci.specs.declared.reply.Given.TheVariants as G
use Rattle.interrupt.specs.declared.answers.Event.TheVariants as E
use Rattle.ehci.specs.Door.{Applied}
use Rattle.promises.specs.Runs.{EveryRun, History, Machine, World, in_plain, history_of, rows_of, turn_of, world_of}
use Rattle.promises.specs.Walks.{chain_walk, is_in, ring_walk, walk_from}
use Rattle.promises.specs.Events.{Submits, event, is_collected}
use Rattle.promises.specs.Bells.{kind_at}
use Rattle.promises.specs.Boundaries.{BoundaryKept}
use Rattle.promises.specs.Faults.{NeverGiven, holds, may_read}
use Rattle.promises.proofs.invariants.Reached.{fresh_world}
use Rattle.refutations.proofs.WrongRuns.{acknowledges, linked, one, opened_two, opening, reading, replies, request, small, state_of, submits, waits}
use Rattle.refutations.proofs.WrongUp.{plain_rises, up_world, up_calls, Plainly}
use Rattle.refutations.proofs.WrongCalls.{again_one, apart_one, collected, drained, free_one, heard, linked_one, submitted, submitted_again, unlinked, submits_one}
use Rattle.refutations.proofs.WrongBells.{any, any_plainly, boundary?, early, early_plainly, found, note_after}
use Rattle.refutations.proofs.Scripts.{Follows, Script, arrives, calls_of, is_told, turns_of}

-- what a machine does that counts the stale advance: n is its note before the drain
module _ (m : Machine in_plain) (plainly : Plainly m) (n : ℕ)
    (hears : m (linked_one (one 0 0 0 0 0 linked)) (acknowledges 0x20) ≡ replies (Ok (Done G.Yes)) (acknowledge_writes 0x20 0x27 true true) (linked_one (one 0x20 0x20 n 0 0 linked)))
    (leaves : m (linked_one (one 0x20 0x20 n 0 0 linked)) (Cancel 0 1 (reading 0x80031)) ≡ replies (Ok (Done G.Nothing)) (and_then no_writes 0 (ring_word 0x80031)) (apart_one (one 0x20 0x20 n 1 1 (waits 1))))
    (counts : m (apart_one (one 0x20 0x20 n 1 1 (waits 1))) (Drain 0x80031) ≡ replies (Ok (Done (G.Event E.TransferActivity))) no_writes (apart_one (one 0 0x20 0 0 0 (waits 0)))) where
  abbrev w : World
  w = fresh_world small

  submits_one_lem : m opened_two (submits 0 0x500000) ≡ replies (Ok (Done (G.Id 1))) (writes_with (reading 0x80031)) (linked_one (one 0 0 0 0 0 linked))
  unfolding state_of
  submits_one_lem = plainly opened_two (submits 0 0x500000) refl refl refl ∙ submitted

  collects_one : m (apart_one (one 0 0x20 0 0 0 (waits 0))) (Collect 0 1 (reading 0x80031)) ≡ replies (Ok Cancelled) no_writes free_one
  unfolding state_of
  collects_one = plainly (apart_one (one 0 0x20 0 0 0 (waits 0))) (Collect 0 1 (reading 0x80031)) refl refl refl ∙ collected

  submits_again : m free_one (submits 0 0x502000) ≡ replies (Ok (Done (G.Id 2))) (writes_with (reading 0x80031)) again_one
  unfolding state_of
  submits_again = plainly free_one (submits 0 0x502000) refl refl refl ∙ submitted_again

  -- one request; the advance bit is read; only then it is unlinked, which rings; a drain
  abbrev counted : Script
  counted =
      (Drain 0x80031, replies (Ok (Done (G.Event E.TransferActivity))) no_writes (apart_one (one 0 0x20 0 0 0 (waits 0))))
      ∷ (Cancel 0 1 (reading 0x80031), replies (Ok (Done G.Nothing)) (and_then no_writes 0 (ring_word 0x80031)) (apart_one (one 0x20 0x20 n 1 1 (waits 1))))
      ∷ (acknowledges 0x20, replies (Ok (Done G.Yes)) (acknowledge_writes 0x20 0x27 true true) (linked_one (one 0x20 0x20 n 0 0 linked)))
      ∷ submits_one

  abbrev freed : Script
  freed = (Collect 0 1 (reading 0x80031), replies (Ok Cancelled) no_writes free_one) ∷ counted

  follows : Follows m opened_two freed
  follows = (collects_one, (counts, (leaves, (hears, (submits_one_lem, tt)))))

  up : world_of m w up_calls ≡ opened_two
  up = up_world m (plain_rises m plainly)

  abbrev stale : List Call
  stale = calls_of up_calls counted

  w4 : world_of m w stale ≡ apart_one (one 0 0x20 0 0 0 (waits 0))
  w4 = arrives m w up_calls opened_two up counted follows.1

  w5 : world_of m w (calls_of up_calls freed) ≡ free_one
  w5 = arrives m w up_calls opened_two up freed follows

  abbrev turns : Script → History
  turns = turns_of opened_two (history_of m w up_calls)

  told : history_of m w stale ≡ turns counted
  told = is_told m w up_calls opened_two up counted follows.1

  bulk : is_interrupt (kind_at small 0 (turns counted)) ≡ false
  unfolding kind_at ring_walk walk_from
  bulk = refl

  no_boundary : boundary? small 0 (turns counted) ≡ false
  unfolding ring_walk walk_from
  no_boundary = refl

  pub not_kept : EveryRun BoundaryKept m → ⊥
  not_kept kept =
      let done : is_collected (m (world_of m w stale) (Collect 0 1 (reading 0x80031))).reply.answer ≡ true
      = ap (λ (x : World). is_collected (m x (Collect 0 1 (reading 0x80031))).reply.answer) w4 ∙ ap (λ (a : Applied). is_collected a.reply.answer) collects_one in
      let kind : is_interrupt (kind_at small 0 (history_of m w stale)) ≡ false = ap (λ (h : History). is_interrupt (kind_at small 0 h)) told ∙ bulk in
      let b = (kept small w opening stale 0 1 (reading 0x80031) done kind).1 in
      true≢false (sym (found small 0 (history_of m w stale) b) ∙ (ap (boundary? small 0) told ∙ no_boundary))

  -- ---- its place is given again

  told_more : history_of m w (calls_of up_calls freed) ≡ turns freed
  told_more = is_told m w up_calls opened_two up freed follows

  still_read : may_read small 0 (turns freed) ≡ true
  unfolding may_read holds history_of ring_walk walk_from chain_walk no_writes and_then ring_word with_bits
  still_read = refl

  given : is_in 0 (chain_walk small again_one.rows 0) ≡ true
  unfolding chain_walk walk_from
  given = refl

  pub not_held_back : EveryRun NeverGiven m → ⊥
  not_held_back never =
      let cs : List Call = calls_of up_calls freed in
      let accepted : event small (turn_of (world_of m w cs).rows (submits 0 0x502000) (m (world_of m w cs) (submits 0 0x502000))) ≡ Submits 0 2 (request 0x502000)
      = ap (λ (x : World). event small (turn_of x.rows (submits 0 0x502000) (m x (submits 0 0x502000)))) w5
      ∙ ap (λ (a : Applied). event small (turn_of free_one.rows (submits 0 0x502000) a)) submits_again in
      let met : is_in 0 (chain_walk small (rows_of (m (world_of m w cs) (submits 0 0x502000))) 0) ≡ true
      = ap (λ (x : World). is_in 0 (chain_walk small (rows_of (m x (submits 0 0x502000))) 0)) w5
      ∙ ap (λ (a : Applied). is_in 0 (chain_walk small (rows_of a) 0)) submits_again ∙ given in
      true≢false (sym (ap (may_read small 0) told_more ∙ still_read) ∙ never small w opening cs (submits 0 0x502000) 0 2 (request 0x502000) 0 accepted met)

-- ---- the two machines

early_hears : early (linked_one (one 0 0 0 0 0 linked)) (acknowledges 0x20) ≡ replies (Ok (Done G.Yes)) (acknowledge_writes 0x20 0x27 true true) (linked_one (one 0x20 0x20 1 0 0 linked))
unfolding state_of with_bell
early_hears = ap (note_after true) heard

early_leaves : early (linked_one (one 0x20 0x20 1 0 0 linked)) (Cancel 0 1 (reading 0x80031)) ≡ replies (Ok (Done G.Nothing)) (and_then no_writes 0 (ring_word 0x80031)) (apart_one (one 0x20 0x20 1 1 1 (waits 1)))
unfolding state_of with_bell
early_leaves = ap (note_after true) unlinked

early_counts : early (apart_one (one 0x20 0x20 1 1 1 (waits 1))) (Drain 0x80031) ≡ replies (Ok (Done (G.Event E.TransferActivity))) no_writes (apart_one (one 0 0x20 0 0 0 (waits 0)))
unfolding state_of with_bell
early_counts = drained

pub early_boundary : EveryRun BoundaryKept early → ⊥
early_boundary = not_kept early early_plainly 1 early_hears early_leaves early_counts

pub early_gives : EveryRun NeverGiven early → ⊥
early_gives = not_held_back early early_plainly 1 early_hears early_leaves early_counts

any_hears : any (linked_one (one 0 0 0 0 0 linked)) (acknowledges 0x20) ≡ replies (Ok (Done G.Yes)) (acknowledge_writes 0x20 0x27 true true) (linked_one (one 0x20 0x20 0 0 0 linked))
any_hears = heard

any_leaves : any (linked_one (one 0x20 0x20 0 0 0 linked)) (Cancel 0 1 (reading 0x80031)) ≡ replies (Ok (Done G.Nothing)) (and_then no_writes 0 (ring_word 0x80031)) (apart_one (one 0x20 0x20 0 1 1 (waits 1)))
any_leaves = unlinked

any_counts : any (apart_one (one 0x20 0x20 0 1 1 (waits 1))) (Drain 0x80031) ≡ replies (Ok (Done (G.Event E.TransferActivity))) no_writes (apart_one (one 0 0x20 0 0 0 (waits 0)))
unfolding state_of with_bell any_of
any_counts = drained

pub any_boundary : EveryRun BoundaryKept any → ⊥
any_boundary = not_kept any any_plainly 0 any_hears any_leaves any_counts

pub any_gives : EveryRun NeverGiven any → ⊥
any_gives = not_held_back any any_plainly 0 any_hears any_leaves any_counts
