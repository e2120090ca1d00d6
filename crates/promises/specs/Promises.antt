-- What is promised: one record, a field for each promise, in the order of the demands. `kept` (proofs/theorems/Kept.antt) says that this port keeps
-- them all. Each name leads down to its statement; a statement is about any machine, whatever its form of state, so the same words
-- are kept by this port in both of its forms (`kept_in_words`, proofs/theorems/WordsPromises.antt) and refuted of machines with a fault.
use Rattle.promises.specs.Runs.{EveryRun, Everywhere, Form, Machine}
use Rattle.promises.specs.Refusals.{FewWrites, RefusalsKeep}
use Rattle.promises.specs.Checks.{InOrder}
use Rattle.promises.specs.Chains.{ChainsWalked, NoDetachFails}
use Rattle.promises.specs.Rooms.{ChainsLead, ExclusivePlaces, RoomExact}
use Rattle.promises.specs.Shorts.{FullGoesOn, SharedStands, ShortStops}
use Rattle.promises.specs.Packets.{HeadsSized, PacketsWhole}
use Rattle.promises.specs.Toggles.{TogglesKept, TogglesTied}
use Rattle.promises.specs.Submissions.{CollectsEnded, PacketsStand, SubmitsPlanned, SubmittedStays, TokensStand}
use Rattle.promises.specs.Registers.{InterruptsAnswered, QuietBringUp, RegistersTied, RingsInTurn, StatusAcknowledged, WritesExactly}
use Rattle.promises.specs.Ranges.{RangesKept, RunsWhileHeld}
use Rattle.promises.specs.Opened.{FieldsTied, SubmitVerdict}
use Rattle.promises.specs.Coverage.{Coverage}
use Rattle.promises.specs.Boundaries.{BoundaryKept, BoundaryNumbered, CancelledAnswered, Exact, FramesKept, OneCount, Orderly, PassesExactly, StateSays, Uncrowded, UpExactly, Waits}
use Rattle.promises.specs.Faults.{NeverGiven}
use Rattle.promises.specs.Collections.{CollectsDue}
use Rattle.promises.specs.Ids.{CancelsById, CollectsById, IdsInTurn}

pub record Promises {f : Form} (m : Machine f) : Type 0 where
  -- ---- 1. Every call judges its own input

  -- a refusal carries its number, writes no register and changes no lent word; a timeout stops the controller and no more
  pub refusals_keep : Everywhere RefusalsKeep m
  pub few_writes : Everywhere FewWrites m
  -- what each call asks, and in which order
  pub in_order : Everywhere InOrder m
  -- ---- 2. Words, links and bytes are as EHCI and USB define them

  -- the ring's walk and each frame entry's meet exactly the linked heads, newest first, and end where they should
  pub chains_walked : EveryRun ChainsWalked m
  -- each overlay leads through its request's descriptors, in order, and terminates
  pub chains_lead : EveryRun ChainsLead m
  -- the shared descriptor stands at place D, in no request and on no chain
  pub shared_stands : EveryRun SharedStands m
  -- a short packet leads there from all but the last descriptor of a bulk or interrupt In request, and the controller's queue stays; by next it
  -- goes on as the chain does
  pub short_stops : EveryRun ShortStops m
  pub full_goes_on : EveryRun FullGoesOn m
  -- a submit leaves its plan's descriptors with their tokens, the setup packet that was asked for, and its overlay
  pub submits_planned : EveryRun SubmitsPlanned m
  -- the controller reads each open slot's packet size in its head, and no packet but a request's last is short
  pub heads_sized : EveryRun HeadsSized m
  pub packets_whole : EveryRun PacketsWhole m
  -- a request begins with the toggle that the controller left
  pub toggles_kept : EveryRun TogglesKept m
  pub packets_stand : EveryRun PacketsStand m
  pub tokens_stand : EveryRun TokensStand m
  -- a collection leaves current 0 and a terminated overlay
  pub collects_ended : EveryRun CollectsEnded m
  -- every register write of every call, and no other
  pub writes_exactly : EveryRun WritesExactly m
  pub status_acknowledged : EveryRun StatusAcknowledged m
  pub rings_in_turn : EveryRun RingsInTurn m
  pub quiet_bring_up : EveryRun QuietBringUp m
  -- what an acknowledgment, a drain, a rearm, an enable and a disable answer
  pub interrupts_answered : EveryRun InterruptsAnswered m
  -- ---- 3. After any calls from an accepted opening

  -- the state is in its ranges
  pub ranges_kept : EveryRun RangesKept m
  pub runs_while_held : EveryRun RunsWhileHeld m
  -- free descriptors are exactly the pool less what uncollected requests need; a submit lacks room exactly when that number is too small
  pub room_exact : EveryRun RoomExact m
  pub submit_verdict : EveryRun SubmitVerdict m
  -- each byte of a buffer is addressed once and no other byte is
  pub coverage : EveryRun Coverage m
  -- no descriptor serves a second request before its collection, and of its records only tokens change, by writeback
  pub exclusive_places : EveryRun ExclusivePlaces m
  pub submitted_stays : EveryRun SubmittedStays m
  -- a collection comes only after the answer to a doorbell rung at or after its unlink
  pub boundary_kept : EveryRun BoundaryKept m
  pub boundary_numbered : EveryRun BoundaryNumbered m
  -- or with FRINDEX 9 or more on
  pub frames_kept : EveryRun FramesKept m
  -- and comes where that is so
  pub exact : EveryRun Exact m
  pub passes_exactly : EveryRun PassesExactly m
  -- one ring is counted at most once
  pub one_count : EveryRun OneCount m
  pub waits : EveryRun Waits m
  pub up_exactly : EveryRun UpExactly m
  pub uncrowded : EveryRun Uncrowded m
  pub orderly : EveryRun Orderly m
  -- so no submit is given a descriptor that the controller may still read
  pub never_given : EveryRun NeverGiven m
  -- a collection answers 10, 11 or 0 with the length, from the request and its last tokens; a cancelled request ends in 10
  pub collects_due : EveryRun CollectsDue m
  pub cancelled_answered : EveryRun CancelledAnswered m
  -- no unlink fails
  pub no_detach_fails : EveryRun NoDetachFails m
  -- ids are 1, 2, .. from a slot's opening on
  pub ids_in_turn : EveryRun IdsInTurn m
  -- a cancel and a collect go by the id, so a stale one hits no later request
  pub cancels_by_id : EveryRun CancelsById m
  pub collects_by_id : EveryRun CollectsById m
  -- ---- what the state's fields say is what the history says

  pub state_says : EveryRun StateSays m
  pub fields_tied : EveryRun FieldsTied m
  pub toggles_tied : EveryRun TogglesTied m
  pub registers_tied : EveryRun RegistersTied m
