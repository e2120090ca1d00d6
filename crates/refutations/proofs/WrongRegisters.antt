-- Machines that acknowledge something else than they read, forget it, ring in a submit, or begin bring-up with a ring out: the statements of
-- registers refuted.
use Rattle.std.specs.Prelude.{Ok, Some, false}
use Prim.Native.Nat.{ℕ}
use mathlib.Core.Bool.{true, ◌&&◌, cond, true≢false}
use mathlib.Core.List.{List, [], ◌∷◌}
use mathlib.Core.Path.{◌≡◌, refl, sym, ap, ◌∙◌}
use native.Mathlib.Omega.{arith}
use lib.Dec.{eqb}
use lib.ListN.{get_or}
use Rattle.register.specs.Bits.{any_of, only_bits, with_bits, without_bits}
use Rattle.register.specs.Writes.{and_then, no_writes, write_of}
use Rattle.register.specs.declared.writes.Write.{Write}
use Rattle.pool.specs.Chains.{fill_of, filled_from, no_chain}
use Rattle.pool.specs.Places.{list_of, packed}
use Rattle.pipe.specs.Endpoints.{flag_number}
use Rattle.state.specs.State.{with_bell, with_interrupt}
use Rattle.schedule.specs.Bell.{command_word, ring_word}
use Rattle.request.specs.Submit.{writes_with}
use Rattle.interrupt.specs.Interrupts.{acknowledge_of, acknowledge_writes, acknowledged_state, drain_of, noted_after}
use Rattle.opening.specs.Opening.{fresh_state, rows_are_fit}
use Rattle.ehci.specs.declared.call.Call.{Call}
use Rattle.ehci.specs.declared.call.Call.TheVariants.{Drain, StartBringUp}
use Rattle.ehci.specs.declared.reply.Answered.TheVariants.{Done}
use Rattle.interrupt.specs.declared.answers.Event.TheVariants as E
use Rattle.ehci.specs.declared.reply.Given.TheVariants as G
use Rattle.ehci.specs.Replies.{answered_values, replied}
use Rattle.ehci.specs.Decides.{acknowledge_decided, asks_of, decide_of, drain_decided}
use Rattle.ehci.specs.Door.{Applied, apply_of}
use Rattle.promises.specs.Runs.{EveryRun, History, Machine, Turn, World, in_plain, core, history_of, moment, turn_by, turn_of, world_of}
use Rattle.promises.specs.Events.{Other, Submits, first_in, is_done}
use Rattle.promises.specs.Bells.{bell, is_up}
use Rattle.promises.specs.Registers.{Access, InterruptsAnswered, QuietBringUp, RegistersTied, RingsInTurn, StatusAcknowledged, WritesExactly, access_of, pending_in, read_in, ring_count, rings_by, status_for, values_at}
use Rattle.promises.proofs.invariants.Reached.{fresh_world}
use Rattle.promises.proofs.any_machine.RegisterLaws.{count_by, never_rings, status_written}
use Rattle.refutations.proofs.WrongRuns.{acknowledges, bell_of, closed, fresh, linked, one, opened_two, opening, opens, reading, replies, request, rising, rising_good, small, state_of, submits, waits}
use Rattle.refutations.proofs.WrongUp.{up_world, up_calls}
use Rattle.refutations.proofs.WrongCalls.{apart_first, apart_one, linked_one, submitted, submitted_beside}
use Rattle.refutations.proofs.WrongBut.{but, but_rises, is_acknowledges, is_starts, is_submits, rewriting}
use Rattle.refutations.proofs.WrongNever.{hears, leaves, hears_one, leaves_one}
use Rattle.refutations.proofs.Scripts.{Script, arrives, calls_of, is_told, turns_of}

abbrev w : World
w = fresh_world small

-- ---- acknowledging something else than was read

-- USBSTS is written with that value
abbrev status_as : ℕ → Write → Write
status_as v x = cond (eqb x.offset 4) (write_of 4 v) x

abbrev pub acknowledges_as : ℕ → Machine in_plain
acknowledges_as v = but (λ x a. is_acknowledges a) (λ x a. rewriting (status_as v) a)

-- nothing; or everything, what came after the read too
abbrev pub silent : Machine in_plain
silent = acknowledges_as 0

abbrev pub deafening : Machine in_plain
deafening = acknowledges_as 0x3F

fresh_heard : core (fresh (rising 0 0)) (acknowledges 0x20)
    ≡ replies (Ok (Done G.Yes)) (acknowledge_writes 0x20 0x27 true true) (fresh (state_of 0 0 (bell_of 0x20 0x20 0 0 0) (0 ∷ 0 ∷ []) closed closed))
unfolding apply_of decide_of asks_of rows_are_fit replied fill_of filled_from no_chain packed list_of acknowledge_decided acknowledge_of only_bits with_bits any_of acknowledged_state noted_after with_interrupt with_bell state_of
fresh_heard = rw (rising_good 0 0 refl refl)

module _ (v : ℕ) (other : v ≡ 0x20 → ⊥) where
  abbrev answer : Applied
  answer = replies (Ok (Done G.Yes)) (acknowledge_writes 0x20 0x27 true true) (fresh (state_of 0 0 (bell_of 0x20 0x20 0 0 0) (0 ∷ 0 ∷ []) closed closed))

  -- the first call of all
  did : turn_by (moment (acknowledges_as v) w) (acknowledges 0x20) ≡ turn_of (fresh (rising 0 0)).rows (acknowledges 0x20) (rewriting (status_as v) answer)
  did =
      ap (λ (x : World). turn_of x.rows (acknowledges 0x20) (rewriting (status_as v) (core x (acknowledges 0x20)))) opens
      ∙ ap (λ (a : Applied). turn_of (fresh (rising 0 0)).rows (acknowledges 0x20) (rewriting (status_as v) a)) fresh_heard

  wrote : values_at 4 (turn_of (fresh (rising 0 0)).rows (acknowledges 0x20) (rewriting (status_as v) answer)).wrote ≡ v ∷ []
  unfolding acknowledge_writes and_then no_writes
  wrote = refl

  ought : status_for [] (turn_of (fresh (rising 0 0)).rows (acknowledges 0x20) (rewriting (status_as v) answer)) (access_of (acknowledges 0x20)) ≡ 0x20 ∷ []
  unfolding only_bits
  ought = refl

  not_acknowledged : EveryRun StatusAcknowledged (acknowledges_as v) → ⊥
  unfolding history_of world_of
  not_acknowledged kept =
      let says = kept small w opening [] (acknowledges 0x20) in
      let same : v ∷ [] ≡ 0x20 ∷ [] =
      sym (ap (λ (t : Turn). values_at 4 t.wrote) did ∙ wrote) ∙ says ∙ ap (λ (t : Turn). status_for [] t (access_of (acknowledges 0x20))) did ∙ ought in
      other (ap (λ (l : List ℕ). get_or l 0 0) same)

  not_exact : EveryRun WritesExactly (acknowledges_as v) → ⊥
  not_exact exact = not_acknowledged (status_written (acknowledges_as v) exact)

pub silent_status : EveryRun StatusAcknowledged silent → ⊥
silent_status = not_acknowledged 0 (λ e. omega arith)

pub silent_writes : EveryRun WritesExactly silent → ⊥
silent_writes = not_exact 0 (λ e. omega arith)

pub deafening_status : EveryRun StatusAcknowledged deafening → ⊥
deafening_status = not_acknowledged 0x3F (λ e. omega arith)

pub deafening_writes : EveryRun WritesExactly deafening → ⊥
deafening_writes = not_exact 0x3F (λ e. omega arith)

-- ---- what is acknowledged does not become pending

abbrev pub forgetful : Machine in_plain
forgetful = but (λ x a. is_acknowledges a) (λ x a. replies (Ok (Done G.Yes)) a.reply.writes x)

fresh_drains : core (fresh (rising 0 0)) (Drain 0x80031) ≡ replies (Ok (Done (G.Event E.Nothing))) no_writes (fresh (rising 0 0))
unfolding apply_of decide_of asks_of rows_are_fit replied fill_of filled_from no_chain packed list_of drain_decided drain_of state_of
fresh_drains = rw (rising_good 0 0 refl refl)

pub forgetful_answers : EveryRun InterruptsAnswered forgetful → ⊥
unfolding history_of world_of pending_in only_bits with_bits any_of
forgetful_answers answered =
    let says = ((answered small w opening (acknowledges 4 ∷ [])).drains_pending 0x80031).1 in
    let nothing : answered_values (core w (Drain 0x80031)).reply.answer ≡ 0 ∷ 0 ∷ []
    = ap (λ (x : World). answered_values (core x (Drain 0x80031)).reply.answer) opens ∙ ap (λ (a : Applied). answered_values a.reply.answer) fresh_drains in
    let same : ◌≡◌ {A = ℕ} 0 1 = ap (λ (l : List ℕ). get_or l 0 0) (sym nothing ∙ says) in
    omega (arith, same)

pub forgetful_tied : EveryRun RegistersTied forgetful → ⊥
unfolding history_of world_of pending_in only_bits with_bits fresh_state
forgetful_tied tied =
    let none : ◌≡◌ {A = ℕ} 0 4 = (tied small w opening (acknowledges 4 ∷ [])).pending in
    omega (arith, none)

-- ---- ringing in a submit, while a ring is out

abbrev rung : Write → Write
rung x = write_of x.offset (with_bits x.value 0x40)

abbrev pub insistent : Machine in_plain
insistent = but (λ x a. is_submits a && eqb x.state.doorbell 1) (λ x a. rewriting rung a)

abbrev c2 : List Call
c2 = calls_of up_calls leaves_one

insistent_up : world_of insistent w up_calls ≡ opened_two
insistent_up = up_world insistent (but_rises (λ (x : World) (a : Access). is_submits a && eqb x.state.doorbell 1) (λ (x : World) (a : Applied). rewriting rung a) (λ x. refl) (λ x n. refl) (λ x v. refl))

insistent_submits : insistent opened_two (submits 0 0x500000) ≡ replies (Ok (Done (G.Id 1))) (writes_with (reading 0x80031)) (linked_one (one 0 0 0 0 0 linked))
unfolding state_of
insistent_submits = submitted

insistent_two : world_of insistent w c2 ≡ apart_one (one 0 0 0 1 1 (waits 1))
insistent_two = arrives insistent w up_calls opened_two insistent_up leaves_one (leaves, (insistent_submits, tt))

rings_beside : insistent (apart_one (one 0 0 0 1 1 (waits 1))) (submits 1 0x501000) ≡ rewriting rung (replies (Ok (Done (G.Id 1))) (writes_with (reading 0x80031)) apart_first)
unfolding state_of
rings_beside = ap (rewriting rung) submitted_beside

one_ring : ring_count (turn_of (apart_one (one 0 0 0 1 1 (waits 1))).rows (submits 1 0x501000) (rewriting rung (replies (Ok (Done (G.Id 1))) (writes_with (reading 0x80031)) apart_first))).wrote ≡ 1
unfolding and_then no_writes command_word with_bits without_bits
one_ring = refl

module _ (said : ring_count (turn_by (moment insistent (world_of insistent w c2)) (submits 1 0x501000)).wrote
    ≡ flag_number (rings_by small (history_of insistent w c2) (turn_by (moment insistent (world_of insistent w c2)) (submits 1 0x501000)))) where
  -- a submit is neither an unlink nor a drain
  no_ring : ⊥
  no_ring =
      let c = submits 1 0x501000 in
      let now = world_of insistent w c2 in
      let a = (insistent now c).reply.answer in
      let none = never_rings small (history_of insistent w c2) (moment insistent now) c (is_done a) (Submits 1 (first_in (answered_values a)) (request 0x501000)) Other refl refl refl refl refl in
      let wrote : ring_count (turn_by (moment insistent now) c).wrote ≡ 1
      = ap (λ (x : World). ring_count (turn_by (moment insistent x) c).wrote) insistent_two
      ∙ ap (λ (x : Applied). ring_count (turn_of (apart_one (one 0 0 0 1 1 (waits 1))).rows c x).wrote) rings_beside ∙ one_ring in
      omega (arith, sym wrote ∙ said ∙ ap flag_number none)

pub insistent_rings : EveryRun RingsInTurn insistent → ⊥
insistent_rings turns = no_ring (turns small w opening c2 (submits 1 0x501000)).once

pub insistent_writes : EveryRun WritesExactly insistent → ⊥
insistent_writes exact =
    let c = submits 1 0x501000 in
    no_ring (ap ring_count (exact small w opening c2 c) ∙ count_by small (history_of insistent w c2) (moment insistent (world_of insistent w c2)) c)

-- ---- bring-up is begun while a ring is out

abbrev begins : World → Applied → Applied
begins x a = replies (Ok (Done (G.Next (Some 0) 0))) no_writes x

abbrev pub brazen : Machine in_plain
brazen = but (λ x a. is_starts a && eqb x.state.noted 1) begins

brazen_up : world_of brazen w up_calls ≡ opened_two
brazen_up = up_world brazen (but_rises (λ (x : World) (a : Access). is_starts a && eqb x.state.noted 1) begins (λ x. refl) (λ x n. rw n) (λ x v. refl))

brazen_starts : brazen (apart_one (one 0x20 0x20 1 1 1 (waits 1))) StartBringUp ≡ replies (Ok (Done (G.Next (Some 0) 0))) no_writes (apart_one (one 0x20 0x20 1 1 1 (waits 1)))
unfolding state_of
brazen_starts = refl

abbrev restarts : Script
restarts = (StartBringUp, replies (Ok (Done (G.Next (Some 0) 0))) no_writes (apart_one (one 0x20 0x20 1 1 1 (waits 1)))) ∷ hears_one

brazen_told : history_of brazen w (calls_of up_calls restarts) ≡ turns_of opened_two (history_of brazen w up_calls) restarts
brazen_told = is_told brazen w up_calls opened_two brazen_up restarts (brazen_starts, (hears, (leaves, (submitted, tt))))

begun_answered : (h : History) → (read_in (turns_of opened_two h restarts) ≡ 1) × (is_up (bell small (turns_of opened_two h restarts)) ≡ true)
unfolding read_in bell and_then no_writes ring_word with_bits acknowledge_writes
begun_answered h = (refl, refl)

pub brazen_quiet : EveryRun QuietBringUp brazen → ⊥
brazen_quiet quiet =
    let h = history_of brazen w up_calls in
    let begun : read_in (history_of brazen w (calls_of up_calls restarts)) ≡ 1 = ap read_in brazen_told ∙ (begun_answered h).0 in
    let down = quiet small w opening (calls_of up_calls restarts) (λ z. omega (arith, begun, z)) in
    true≢false (sym (ap (λ (x : History). is_up (bell small x)) brazen_told ∙ (begun_answered h).1) ∙ ap is_up down)
