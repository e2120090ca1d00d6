-- Document 01, "Unlinking and collecting": a request's unlink, and its boundary.
use Rattle.std.specs.Prelude.{ℕ, ◌+◌, ◌<◌, Bool, true, false, List, [], ◌∷◌, ◌==◌, Ok}
use Rattle.register.specs.Writes.{no_writes}
use Rattle.common.specs.declared.kinds.EndpointType.{EndpointType}
use Rattle.common.specs.declared.kinds.EndpointType.TheVariants.{Control, Isochronous, Bulk, Interrupt}
use Rattle.state.specs.Plain.{Ehci}
use Rattle.state.specs.State.{with_bell}
use Rattle.common.specs.Answers.{first, settle}
use Rattle.pipe.specs.Endpoints.{with_endpoint}
use Rattle.common.specs.declared.answer.Refusal.TheVariants.{InvalidEndpoint}
use Rattle.pipe.specs.declared.endpoints.Endpoint.TheVariants.{Unlinking}
use Rattle.pipe.specs.declared.endpoints.Pipe.{Pipe}
use Rattle.pipe.specs.declared.endpoints.Request.{Request}
use Rattle.pipe.specs.declared.endpoints.UnlinkBoundary.{UnlinkBoundary}
use Rattle.pipe.specs.declared.endpoints.UnlinkBoundary.TheVariants.{Async, Periodic}
use Rattle.controller.specs.declared.lent.Readings.{Readings}
use Rattle.schedule.specs.Bell.{bell_of, frame_of, frames_passed, unlinked_of}
use Rattle.schedule.specs.Links.{Links, links, detach_of}
use Rattle.schedule.specs.declared.bell.Bell.{Bell}
use Rattle.schedule.specs.declared.links.Predecessor.{Predecessor}
use Rattle.schedule.specs.declared.links.Predecessor.TheVariants.{First, Head, Missing}
use Rattle.collection.specs.Plain.{Cancellation}
use Rattle.collection.specs.declared.unlink.Bounded.{Bounded}
use Rattle.collection.specs.Answers.{refused_cancel}

-- what an unlink leaves
pub record Left : Type 0 where
  pub came : Cancellation
  pub rows : Links

abbrev pub left : Cancellation → List ℕ → List ℕ → Left
left c heads frames = record { came = c; rows = links heads frames }

-- ---- the boundary

-- "unlinks are numbered 1, 2, ..; the boundary is that number", kept as those still to be answered, itself among them
abbrev pub asked_of : Bell → ℕ → Bounded
asked_of b command = record { boundary = Async (b.unanswered + 1); rung = unlinked_of b no_writes command }

-- "Interrupt: the boundary is FRINDEX mod 16384"; nothing is rung
unfoldable pub bounded_of : Bell → EndpointType → Readings → Bounded
bounded_of b Control readings = asked_of b readings.command
bounded_of b Isochronous readings = asked_of b readings.command
bounded_of b Bulk readings = asked_of b readings.command
bounded_of b Interrupt readings =
    record { boundary = Periodic (frame_of readings.frame); rung = record { bell = b; writes = no_writes } }

abbrev pub waiting_for : Ehci → ℕ → Pipe → Request → Bounded → Cancellation
waiting_for s k p r until =
    record {
      answer = Ok tt;
      state = with_endpoint
          (with_bell s until.rung.bell.noted until.rung.bell.doorbell until.rung.bell.unanswered)
          k
          (Unlinking p r until.boundary);
      writes = until.rung.writes;
    }

-- the slot's request waits for its boundary
unfoldable pub waiting_of : Ehci → Readings → ℕ → Pipe → Request → Cancellation
waiting_of s readings k p r = waiting_for s k p r (bounded_of (bell_of s) p.kind readings)

-- ---- unlinking

abbrev pub is_missing : Predecessor → Bool
is_missing First = false
is_missing (Head j) = false
is_missing Missing = true

-- the head leaves its schedule and the request waits; 3 where no linked head leads to it
unfoldable pub unlink_of : Ehci → List ℕ → List ℕ → Readings → ℕ → Pipe → Request → Left
unlink_of s heads frames readings k p r =
    settle (first ((is_missing (detach_of s heads frames k).predecessor, InvalidEndpoint) ∷ []))
    (λ x. left (refused_cancel s x) heads frames)
    (record { came = waiting_of s readings k p r; rows = (detach_of s heads frames k).rows })

-- ---- "passed when answered unlinks reach its number, or when (FRINDEX − start) mod 16384 ≥ 9"

abbrev pub passed_boundary : UnlinkBoundary → ℕ → Bool
passed_boundary (Async n) frame = n == 0
passed_boundary (Periodic start) frame = frames_passed start frame

abbrev pub frame_below : UnlinkBoundary → Type 0
frame_below (Async n) = Unit
frame_below (Periodic start) = start < 16384
