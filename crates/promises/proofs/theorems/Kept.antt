-- This port keeps every promise.
use Rattle.ehci.proofs.Refusals.{numbers_keep}
use Rattle.ehci.proofs.WriteLaws as Writes
use Rattle.promises.specs.Runs.{core}
use Rattle.promises.specs.Promises.{Promises}
use Rattle.promises.proofs.theorems.Order as Order
use Rattle.promises.proofs.theorems.ChainRuns as Chains
use Rattle.promises.proofs.theorems.ChainTheorems.{no_detach}
use Rattle.promises.proofs.theorems.RoomPromises as Rooms
use Rattle.promises.proofs.theorems.RangeTheorems as Ranges
use Rattle.promises.proofs.theorems.SubmissionLaws as Submissions
use Rattle.promises.proofs.theorems.WholeLaws as WholeLaws
use Rattle.promises.proofs.theorems.PacketLaws as Packets
use Rattle.promises.proofs.theorems.ToggleLaws as Toggles
use Rattle.promises.proofs.theorems.TokenLaws as Tokens
use Rattle.promises.proofs.theorems.RegisterTheorems as Registers
use Rattle.promises.proofs.theorems.BoundaryCore as Boundaries
use Rattle.promises.proofs.theorems.BoundaryCancels as Cancels
use Rattle.promises.proofs.theorems.FaultTheorem as Faults
use Rattle.promises.proofs.theorems.CollectionLaws as Collections
use Rattle.promises.proofs.theorems.ShortLaws as Shorts
use Rattle.promises.proofs.theorems.IdTheorems as Ids
use Rattle.promises.proofs.theorems.CancelTheorems as ById

pub kept : Promises core
kept =
    record {
      refusals_keep = λ w t c n. numbers_keep w.state w.rows.pool w.rows.heads w.rows.frames w.rows.setups c n;
      few_writes = λ w t c. Writes.few_writes w.state w.rows.pool w.rows.heads w.rows.frames w.rows.setups c;
      in_order = Order.in_order;
      chains_walked = Chains.chains_walked;
      chains_lead = Rooms.chains_lead;
      shared_stands = Shorts.shared_stands;
      short_stops = Shorts.short_stops;
      full_goes_on = Shorts.full_goes_on;
      submits_planned = Submissions.submits_planned;
      heads_sized = Rooms.heads_sized;
      packets_whole = WholeLaws.packets_whole;
      toggles_kept = Toggles.toggles_kept;
      packets_stand = Packets.packets_stand;
      tokens_stand = Tokens.tokens_stand;
      collects_ended = Submissions.collects_ended;
      writes_exactly = Registers.writes_exactly;
      status_acknowledged = Registers.status_acknowledged;
      rings_in_turn = Registers.rings_in_turn;
      quiet_bring_up = Registers.quiet_bring_up;
      interrupts_answered = Registers.interrupts_answered;
      ranges_kept = Ranges.ranges_kept;
      runs_while_held = Ranges.runs_while_held;
      room_exact = Rooms.room_exact;
      submit_verdict = Rooms.submit_verdict;
      coverage = Rooms.buffers_covered;
      exclusive_places = Rooms.exclusive_places;
      submitted_stays = Submissions.submitted_stays;
      boundary_kept = Boundaries.boundary_kept;
      boundary_numbered = Boundaries.boundary_numbered;
      frames_kept = Boundaries.frames_counted;
      exact = Boundaries.exact;
      passes_exactly = Boundaries.by_number_alone;
      one_count = Boundaries.one_count_a_ring;
      waits = Boundaries.order_13;
      up_exactly = Boundaries.up_exactly;
      uncrowded = Cancels.uncrowded;
      orderly = Boundaries.orderly;
      never_given = Faults.never_given;
      collects_due = Collections.collects_due;
      cancelled_answered = Cancels.cancelled_answered;
      no_detach_fails = no_detach;
      ids_in_turn = Ids.ids_in_turn;
      cancels_by_id = ById.cancels_by_id;
      collects_by_id = ById.collects_by_id;
      state_says = Cancels.state_says;
      fields_tied = Rooms.fields_tied;
      toggles_tied = Toggles.toggles_tied;
      registers_tied = Registers.registers_tied;
    }
