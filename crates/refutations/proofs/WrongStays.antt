-- Machines made from `core` that lose what a writeback writes, or that leave a collected request's overlay as it was.
use Rattle.std.specs.Prelude.{Ok, Result}
use Prim.Native.Nat.{ℕ, ◌<◌}
use mathlib.Core.Path.{◌≡◌, refl, sym, ap, subst, ◌∙◌}
use mathlib.Core.Bool.{Bool, true, false, false≢true, cond}
use mathlib.Core.Logic.{⊎_elim}
use mathlib.Core.List.{List, [], ◌∷◌, ◌++◌}
use native.Mathlib.Omega.{arith}
use lib.Dec.{eqb}
use lib.ListN.{get_or, length}
use Rattle.register.specs.Writes.{no_writes}
use Rattle.descriptor.specs.declared.qtd.QueueTransferDescriptor.{QueueTransferDescriptor}
use Rattle.pool.specs.Chains.{blank}
use Rattle.ehci.specs.declared.call.Call.{Call}
use Rattle.ehci.specs.declared.call.Call.TheVariants.{Writeback}
use Rattle.ehci.specs.declared.reply.Answered.TheVariants.{Done}
use Rattle.ehci.specs.declared.reply.Given.TheVariants as G
use Rattle.ehci.specs.Replies.{answered_number}
use Rattle.ehci.specs.Door.{Applied, applied}
use Rattle.promises.specs.Runs.{EveryRun, History, Machine, Turn, World, in_plain, core, history_of, moment, rows_of, turn_of, world_of}
use Rattle.promises.specs.Walks.{chain_walk, ring_walk, walk_from}
use Rattle.promises.specs.Events.{event, is_collected}
use Rattle.promises.specs.Uses.{Use, uses}
use Rattle.promises.specs.Bells.{is_submits_of}
use Rattle.promises.specs.Rooms.{Every}
use Rattle.promises.specs.Submissions.{CollectsEnded, SubmittedStays, TokenStands, TokensStand, Untouched, word_at}
use Rattle.promises.proofs.theorems.TokenLaws.{back_at}
use Rattle.promises.proofs.invariants.Reached.{fresh_world}
use Rattle.refutations.proofs.WrongRuns.{linked, one, opened_two, opening, reading, replies, request, small, submits}
use Rattle.refutations.proofs.WrongUp.{up_world, up_calls, up_size}
use Rattle.refutations.proofs.WrongCalls.{linked_one, submitted, submits_one}
use Rattle.refutations.proofs.WrongCollections.{apart_now, c5, leaves, length_500, linked_now, looks, rank, rises_up, unlinks, w5, written}
use Rattle.refutations.proofs.Scripts.{Follows, Script, arrives, calls_of, is_told, turns_of}
use Rattle.ehci.specs.declared.reply.Answered.{Answered}
use Rattle.common.specs.declared.answer.Refusal.{Refusal}

abbrev w : World
w = fresh_world small

-- ---- a writeback writes nothing

abbrev unwritten : World → Applied → Applied
unwritten v a = applied a.reply v.rows.pool a.heads a.frames a.setups

abbrev drops : Machine in_plain
drops v c = cond (eqb (rank c) 3) (unwritten v (core v c)) (core v c)

drops_plain : (v : World) (c : Call) → eqb (rank c) 3 ≡ false → drops v c ≡ core v c
drops_plain v c e = rw e

abbrev back : Call
back = Writeback 0 0x000C8C08

abbrev cs : List Call
cs = calls_of up_calls submits_one

up : world_of drops w up_calls ≡ opened_two
up = up_world drops (rises_up drops (λ v c e. drops_plain v c (ap (λ (n : ℕ). eqb n 3) e)))

submits_so : Follows drops opened_two submits_one
submits_so = (drops_plain opened_two (submits 0 0x500000) refl ∙ submitted, tt)

submits_there : world_of drops w cs ≡ linked_one (one 0 0 0 0 0 linked)
submits_there = arrives drops w up_calls opened_two up submits_one submits_so

abbrev token_in : List QueueTransferDescriptor → ℕ
token_in l = (get_or l 0 blank).token

drops_stays : EveryRun SubmittedStays drops → ⊥
drops_stays p =
    let zero : answered_number (drops (world_of drops w cs) back).reply.answer ≡ 0
    = ap (λ (v : World). answered_number (drops v back).reply.answer) submits_there ∙ ap (λ (a : Applied). answered_number a.reply.answer) written in
    let is : token_in (rows_of (drops (world_of drops w cs) back)).pool ≡ 0x02008C80 = ap (λ (v : World). token_in (rows_of (drops v back)).pool) submits_there in
    let due : token_in (rows_of (drops (world_of drops w cs) back)).pool ≡ 0x000C8C08
    = ap (λ (d : QueueTransferDescriptor). d.token) ((p small w opening cs).written 0 0x000C8C08 zero) in
    omega (arith, sym is ∙ due)

-- so the record has not the token that was last written back
abbrev writes : Script
writes = (back, replies (Ok (Done G.Nothing)) no_writes (linked_one (one 0 0 0 0 0 linked))) ∷ submits_one

abbrev told : History
told = turns_of opened_two (history_of drops w up_calls) writes

back_so : drops (linked_one (one 0 0 0 0 0 linked)) back ≡ replies (Ok (Done G.Nothing)) no_writes (linked_one (one 0 0 0 0 0 linked))
back_so = ap (unwritten (linked_one (one 0 0 0 0 0 linked))) written

is_so : history_of drops w (back ∷ cs) ≡ told
is_so = is_told drops w up_calls opened_two up writes (back_so, submits_so)

abbrev first : Use
first = record { slot = 0; id = 1; request = request 0x500000; size = 512; places = 0 ∷ [] }

uses_are : uses small told ≡ first ∷ []
unfolding uses history_of ring_walk walk_from chain_walk
uses_are = ap (λ (n : ℕ). record { slot = 0; id = 1; request = request 0x500000; size = n; places = 0 ∷ [] } ∷ []) (up_size drops (rises_up drops (λ v c e. drops_plain v c (ap (λ (n : ℕ). eqb n 3) e))))

not_standing : TokenStands small told (moment drops (linked_one (one 0 0 0 0 0 linked))) first 0 → ⊥
not_standing x = by x.since x.picture x.untouched
  where
    newest : History → Turn
    newest h = get_or h 0 (turn_of w.rows back (core w back))

    by : (since : History) → told ≡ since ++ x.last ∷ x.before → Untouched small 0 0 since → ⊥
    by [] e u =
        ⊎_elim (λ z. false≢true (ap (λ (h : History). is_submits_of 0 (event small (newest h))) e ∙ ap (is_submits_of 0) z.0))
        (λ z. let none : ◌≡◌ {A = ℕ} 0x000C8C08 0x02008C80 = ap (λ (h : History). get_or (back_at (newest h).call) 1 0) e ∙ ap (λ (c : Call). get_or (back_at c) 1 0) z.0 in omega (arith, none))
        x.stands
    by (t ∷ since) e u = u.0 0x000C8C08 (sym (ap (λ (h : History). (newest h).call) e), sym (ap (λ (h : History). answered_number (newest h).answer) e))

abbrev AllStand : History → World → List Use → Type 0
AllStand h v us = Every (λ u. (j : ℕ) → j < length u.places → TokenStands small h (moment drops v) u j) us

drops_stands : EveryRun TokensStand drops → ⊥
drops_stands p =
    let there : world_of drops w (back ∷ cs) ≡ linked_one (one 0 0 0 0 0 linked) = arrives drops w up_calls opened_two up writes (back_so, submits_so) in
    let by-world : AllStand (history_of drops w (back ∷ cs)) (linked_one (one 0 0 0 0 0 linked)) (uses small (history_of drops w (back ∷ cs)))
    = subst (λ (v : World). AllStand (history_of drops w (back ∷ cs)) v (uses small (history_of drops w (back ∷ cs)))) there (p small w opening (back ∷ cs)) in
    let by_history : AllStand told (linked_one (one 0 0 0 0 0 linked)) (uses small told)
    = subst (λ (h : History). AllStand h (linked_one (one 0 0 0 0 0 linked)) (uses small h)) is_so by-world in
    not_standing ((subst (AllStand told (linked_one (one 0 0 0 0 0 linked))) uses_are by_history).0 0 (omega arith))

-- ---- a collection leaves the overlay

abbrev unended : World → Applied → Applied
unended v a = cond (is_collected a.reply.answer) (applied a.reply a.pool v.rows.heads a.frames a.setups) a

abbrev leads : Machine in_plain
leads v c = cond (eqb (rank c) 2) (unended v (core v c)) (core v c)

leads_end : world_of leads w c5 ≡ apart_now (one 0 0x20 0 0 0 (leaves 0))
leads_end = w5 leads (λ v c e. rw e) (ap (unended (linked_now (one 0 0 0 0 0 linked))) unlinks)

abbrev end : World
end = apart_now (one 0 0x20 0 0 0 (leaves 0))

-- the answer is 0, so it collects
leads_answer : (leads end looks).reply.answer ≡ (core end looks).reply.answer
leads_answer = by (is_collected (core end looks).reply.answer)
  where
    by : (b : Bool) → (cond b (applied (core end looks).reply (core end looks).pool end.rows.heads (core end looks).frames (core end looks).setups) (core end looks)).reply.answer ≡ (core end looks).reply.answer
    by true = refl
    by false = refl

leads_word : word_at (rows_of (leads end looks)) 0 4 ≡ 0x100000
leads_word = rw (ap is_collected length_500)

leads_ended : EveryRun CollectsEnded leads → ⊥
leads_ended p =
    let collects : is_collected (leads (world_of leads w c5) looks).reply.answer ≡ true
    = ap (λ (v : World). is_collected (leads v looks).reply.answer) leads_end
    ∙ ap (λ (a : (Result Answered Refusal)). is_collected a) (leads_answer ∙ length_500) in
    let one-there : word_at (rows_of (leads (world_of leads w c5) looks)) 0 4 ≡ 1 = p small w opening c5 0 1 (reading 0x80031) collects 1 (omega arith) in
    let old : word_at (rows_of (leads (world_of leads w c5) looks)) 0 4 ≡ 0x100000 = ap (λ (v : World). word_at (rows_of (leads v looks)) 0 4) leads_end ∙ leads_word in
    omega (arith, sym old ∙ one-there)
