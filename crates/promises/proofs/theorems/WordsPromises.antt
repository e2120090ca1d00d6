-- Every promise that this port keeps it keeps in words: each is carried over from `kept`, none is proved again.
use mathlib.Core.Bool.{Bool, true, false}
use mathlib.Core.Path.{◌≡◌, refl, sym, subst}
use native.Mathlib.Omega.{arith}
use Rattle.register.specs.Writes.{no_writes}
use Rattle.state.specs.Plain.{Ehci}
use Rattle.promises.specs.Runs.{Everywhere, Machine, Moment, Rows, core, moment, viewed}
use Rattle.promises.specs.Promises.{Promises}
use Rattle.promises.specs.Refusals.{FewWrites, RefusalsKeep}
use Rattle.promises.specs.Checks.{InOrder}
use Rattle.promises.specs.Chains.{ChainsWalked, NoDetachFails}
use Rattle.promises.specs.Rooms.{ChainsLead, ExclusivePlaces, RoomExact}
use Rattle.promises.specs.Shorts.{FullGoesOn, SharedStands, ShortStops}
use Rattle.promises.specs.Submissions.{CollectsEnded, PacketsStand, SubmitsPlanned, SubmittedStays, TokensStand}
use Rattle.promises.specs.Registers.{InterruptsAnswered, QuietBringUp, RegistersTied, RingsInTurn, StatusAcknowledged, WritesExactly}
use Rattle.promises.specs.Ranges.{RangesKept, RunsWhileHeld}
use Rattle.promises.specs.Opened.{FieldsTied, SubmitVerdict}
use Rattle.promises.specs.Coverage.{Coverage}
use Rattle.promises.specs.Boundaries.{BoundaryKept, BoundaryNumbered, CancelledAnswered, Exact, FramesKept, OneCount, Orderly, PassesExactly, StateSays, Uncrowded, UpExactly, Waits}
use Rattle.promises.specs.Faults.{NeverGiven}
use Rattle.promises.specs.Collections.{CollectsDue}
use Rattle.promises.specs.Ids.{CancelsById, CollectsById, IdsInTurn}
use Rattle.promises.specs.WordsRuns.{Does, in_words, let_in}
use Rattle.promises.proofs.theorems.Kept.{kept}
use Rattle.promises.proofs.theorems.WordsCalls.{let_in_faithful, refused_moment, refusing, same_moment}
use Rattle.promises.proofs.theorems.WordsRuns.{carried}
use Rattle.promises.specs.Packets.{HeadsSized, PacketsWhole}
use Rattle.promises.specs.Toggles.{TogglesKept, TogglesTied}

-- ---- in every world: words that are let in do what their state does, and all others are refused

everywhere : (P : Moment → Type 0) → ((state : Ehci) (rows : Rows) → P (refusing state rows)) → Everywhere P core → (m : Machine in_words) → Does m → Everywhere P m
everywhere P refuses keeps m does w typed = by (let_in w) refl
  where
    by : (b : Bool) → let_in w ≡ b → P (moment m w)
    by true e = subst P (sym (same_moment m does w (let_in_faithful m does w typed e))) (keeps (viewed w) tt)
    by false e = subst P (sym (refused_moment m does w typed e)) (refuses (viewed w).state w.rows)

refusing_keeps : (state : Ehci) (rows : Rows) → RefusalsKeep (refusing state rows)
refusing_keeps state rows c n is zero nine ten eleven =
    record {
      no_write = refl;
      pool_stays = refl;
      heads_stay = refl;
      frames_stay = refl;
      setups_stay = refl;
      state_stays = λ other. refl;
      only_stopped = λ seven. absurd (omega (arith, is, seven));
    }

refusing_few : (state : Ehci) (rows : Rows) → FewWrites (refusing state rows)
unfolding no_writes
refusing_few state rows c = omega arith

-- ---- in every run

pub kept_in_words : (m : Machine in_words) → Does m → Promises m
kept_in_words m does =
    record {
      refusals_keep = everywhere RefusalsKeep refusing_keeps kept.refusals_keep m does;
      few_writes = everywhere FewWrites refusing_few kept.few_writes m does;
      in_order = everywhere InOrder (λ state rows c. refl) kept.in_order m does;
      chains_walked = carried ChainsWalked kept.chains_walked m does;
      chains_lead = carried ChainsLead kept.chains_lead m does;
      shared_stands = carried SharedStands kept.shared_stands m does;
      short_stops = carried ShortStops kept.short_stops m does;
      full_goes_on = carried FullGoesOn kept.full_goes_on m does;
      submits_planned = carried SubmitsPlanned kept.submits_planned m does;
      heads_sized = carried HeadsSized kept.heads_sized m does;
      packets_whole = carried PacketsWhole kept.packets_whole m does;
      toggles_kept = carried TogglesKept kept.toggles_kept m does;
      packets_stand = carried PacketsStand kept.packets_stand m does;
      tokens_stand = carried TokensStand kept.tokens_stand m does;
      collects_ended = carried CollectsEnded kept.collects_ended m does;
      writes_exactly = carried WritesExactly kept.writes_exactly m does;
      status_acknowledged = carried StatusAcknowledged kept.status_acknowledged m does;
      rings_in_turn = carried RingsInTurn kept.rings_in_turn m does;
      quiet_bring_up = carried QuietBringUp kept.quiet_bring_up m does;
      interrupts_answered = carried InterruptsAnswered kept.interrupts_answered m does;
      ranges_kept = carried RangesKept kept.ranges_kept m does;
      runs_while_held = carried RunsWhileHeld kept.runs_while_held m does;
      room_exact = carried RoomExact kept.room_exact m does;
      submit_verdict = carried SubmitVerdict kept.submit_verdict m does;
      coverage = carried Coverage kept.coverage m does;
      exclusive_places = carried ExclusivePlaces kept.exclusive_places m does;
      submitted_stays = carried SubmittedStays kept.submitted_stays m does;
      boundary_kept = carried BoundaryKept kept.boundary_kept m does;
      boundary_numbered = carried BoundaryNumbered kept.boundary_numbered m does;
      frames_kept = carried FramesKept kept.frames_kept m does;
      exact = carried Exact kept.exact m does;
      passes_exactly = carried PassesExactly kept.passes_exactly m does;
      one_count = carried OneCount kept.one_count m does;
      waits = carried Waits kept.waits m does;
      up_exactly = carried UpExactly kept.up_exactly m does;
      uncrowded = carried Uncrowded kept.uncrowded m does;
      orderly = carried Orderly kept.orderly m does;
      never_given = carried NeverGiven kept.never_given m does;
      collects_due = carried CollectsDue kept.collects_due m does;
      cancelled_answered = carried CancelledAnswered kept.cancelled_answered m does;
      no_detach_fails = carried NoDetachFails kept.no_detach_fails m does;
      ids_in_turn = carried IdsInTurn kept.ids_in_turn m does;
      cancels_by_id = carried CancelsById kept.cancels_by_id m does;
      collects_by_id = carried CollectsById kept.collects_by_id m does;
      state_says = carried StateSays kept.state_says m does;
      fields_tied = carried FieldsTied kept.fields_tied m does;
      toggles_tied = carried TogglesTied kept.toggles_tied m does;
      registers_tied = carried RegistersTied kept.registers_tied m does;
    }
