-- Document 01, "Unlinking and collecting": cancel and collect.
use Rattle.std.specs.Prelude.{ℕ, ◌+◌, Bool, true, false, cond, not, List, [], ◌∷◌, ◌++◌, length, take, drop, ◌==◌, nat_le, Ok}
use Rattle.register.specs.Writes.{no_writes}
use Rattle.pool.specs.Places.{clear_of}
use Rattle.pool.specs.declared.chain.Standing.{Standing}
use Rattle.pool.specs.declared.chain.View.{View}
use Rattle.pool.specs.Chains.{stands_active}
use Rattle.state.specs.Plain.{Ehci}
use Rattle.state.specs.State.{with_owner}
use Rattle.common.specs.Answers.{Check, first, settle}
use Rattle.pipe.specs.Endpoints.{endpoint_at, with_endpoint, with_toggle}
use Rattle.controller.specs.Lent.{accepts_of, lengths}
use Rattle.controller.specs.Readers.{is_opened, is_uncollected}
use Rattle.common.specs.declared.answer.Refusal.TheVariants.{InvalidEndpoint, InvalidParameter}
use Rattle.pipe.specs.declared.endpoints.Endpoint.{Endpoint}
use Rattle.pipe.specs.declared.endpoints.Endpoint.TheVariants.{Closed, Idle, Linked, Unlinking}
use Rattle.pipe.specs.declared.endpoints.Pipe.{Pipe}
use Rattle.pipe.specs.declared.endpoints.Request.{Request}
use Rattle.pipe.specs.declared.endpoints.UnlinkBoundary.{UnlinkBoundary}
use Rattle.controller.specs.Plain.{Lengths}
use Rattle.controller.specs.declared.lent.Readings.{Readings}
use Rattle.schedule.specs.Links.{Links, links, ended_overlay}
use Rattle.collection.specs.Plain.{Cancellation}
use Rattle.collection.specs.Plain.{Collection}
use Rattle.collection.specs.Answers.{outcome_of, pending_collect, pending_of, refused_cancel, refused_collect}
use Rattle.collection.specs.Unlinks.{Left, left, passed_boundary, unlink_of}
use Rattle.token.specs.Overlay.{kept_toggle}

-- a linked slot while 32 unlinks are unanswered: there are 31 other slots, so no run from opening comes to it (docs/DECISIONS.md, 13)
abbrev pub crowded_at : Endpoint → ℕ → Bool
crowded_at Closed unanswered = false
crowded_at (Idle p) unanswered = false
crowded_at (Linked p r) unanswered = nat_le 32 unanswered
crowded_at (Unlinking p r b) unanswered = false

abbrev pub crowded : Ehci → ℕ → Bool
crowded s slot = crowded_at (endpoint_at s slot) s.unanswered

-- the slot has a request, and its id is another
abbrev pub wrong_at : Endpoint → ℕ → Bool
wrong_at Closed id = false
wrong_at (Idle p) id = false
wrong_at (Linked p r) id = not (r.id == id)
wrong_at (Unlinking p r b) id = not (r.id == id)

abbrev pub wrong_id : Ehci → ℕ → ℕ → Bool
wrong_id s slot id = wrong_at (endpoint_at s slot) id

-- ---- cancel

-- "3 if not open, nothing uncollected, or wrong id"
abbrev pub cancel_checks : Ehci → Lengths → ℕ → ℕ → List Check
cancel_checks s lent slot id =
    (not (accepts_of s lent), InvalidParameter)
    ∷ (crowded s slot, InvalidParameter)
    ∷ (not (is_opened s slot), InvalidEndpoint)
    ∷ (not (is_uncollected s slot), InvalidEndpoint)
    ∷ (wrong_id s slot id, InvalidEndpoint)
    ∷ []

abbrev pub marked : Request → Request
marked r = record { id = r.id; direction = r.direction; length = r.length; cancelled = true }

abbrev pub marked_of : Ehci → ℕ → Pipe → Request → UnlinkBoundary → Cancellation
marked_of s slot p r b =
    record { answer = Ok tt; state = with_endpoint s slot (Unlinking p (marked r) b); writes = no_writes }

-- "Cancel marks and unlinks unless already unlinking."
abbrev pub cancel_at : Endpoint → Ehci → List ℕ → List ℕ → Readings → ℕ → Left
cancel_at Closed s heads frames readings slot = left (refused_cancel s InvalidEndpoint) heads frames
cancel_at (Idle p) s heads frames readings slot = left (refused_cancel s InvalidEndpoint) heads frames
cancel_at (Linked p r) s heads frames readings slot = unlink_of s heads frames readings slot p (marked r)
cancel_at (Unlinking p r b) s heads frames readings slot = left (marked_of s slot p r b) heads frames

unfoldable pub cancel_of : Ehci → ℕ → List ℕ → List ℕ → ℕ → Readings → ℕ → ℕ → Left
cancel_of s pool heads frames setups readings slot id =
    settle (first (cancel_checks s (lengths pool (length heads) (length frames) setups) slot id))
    (λ x. left (refused_cancel s x) heads frames)
    (cancel_at (endpoint_at s slot) s heads frames readings slot)

-- ---- collect

-- what a collect leaves
pub record Gathered : Type 0 where
  pub came : Collection
  pub rows : Links

abbrev pub gathered : Collection → List ℕ → List ℕ → Gathered
gathered c heads frames = record { came = c; rows = links heads frames }

-- boundary not set: an unlink answers Pending

abbrev pub pending_left : Left → Gathered
pending_left l =
    record {
      came = record { answer = pending_of l.came.answer; state = l.came.state; writes = l.came.writes };
      rows = l.rows;
    }

-- "if, in order, every descriptor is inactive, or an error comes before any active one, unlink; Pending"
unfoldable pub linked_of : Ehci → List ℕ → List ℕ → Readings → Standing → ℕ → Pipe → Request → Gathered
linked_of s heads frames readings stage k p r =
    cond (stands_active stage) (gathered (pending_collect s) heads frames)
    (pending_left (unlink_of s heads frames readings k p r))

-- boundary set

-- the places that x owns among the first so many become free
unfoldable pub freed : List ℕ → ℕ → ℕ → List ℕ
freed owner descriptors x = clear_of x (take descriptors owner) ++ drop descriptors owner

-- "descriptors freed", and the slot idle
unfoldable pub finish_of : Ehci → View → ℕ → Pipe → Request → Collection
finish_of s view k p r =
    record {
      answer = outcome_of r.cancelled view;
      state = with_endpoint (with_owner s (freed s.owner s.settings.descriptors (k + 1))) k (Idle p);
      writes = no_writes;
    }

pub record Ended : Type 0 where
  pub came : Collection
  pub heads : List ℕ

abbrev pub ended : Collection → List ℕ → Ended
ended c heads = record { came = c; heads = heads }

abbrev pub end_if : Bool → Ended → Ended → Ended
end_if true a b = a
end_if false a b = b

-- "Passed: descriptors freed, current 0, overlay terminated"; "else Pending"
unfoldable pub unlinking_of : Ehci → List ℕ → ℕ → View → ℕ → Pipe → Request → UnlinkBoundary → Ended
unlinking_of s heads frame view k p r b =
    end_if (passed_boundary b frame) (ended (finish_of s view k p r) (ended_overlay heads k)) (ended (pending_collect s) heads)

abbrev pub with_frames : Ended → List ℕ → Gathered
with_frames e frames = gathered e.came e.heads frames

-- "Collect: 3 if not open; 9 if nothing uncollected; 3 on a wrong id."
abbrev pub collect_checks : Ehci → Lengths → ℕ → ℕ → List Check
collect_checks s lent slot id =
    (not (accepts_of s lent), InvalidParameter)
    ∷ (crowded s slot, InvalidParameter)
    ∷ (not (is_opened s slot), InvalidEndpoint)
    ∷ (wrong_id s slot id, InvalidEndpoint)
    ∷ []

-- 02 order 6: "The passing collect call is given the head's overlay token .. and keeps its bit 31"
abbrev pub keeping : Readings → Pipe → Pipe
keeping readings p = with_toggle p (kept_toggle readings.overlay)

abbrev pub collect_at : Endpoint → Ehci → List ℕ → List ℕ → Readings → View → ℕ → Gathered
collect_at Closed s heads frames readings view slot = gathered (refused_collect s InvalidEndpoint) heads frames
collect_at (Idle p) s heads frames readings view slot = gathered (pending_collect s) heads frames
collect_at (Linked p r) s heads frames readings view slot = linked_of s heads frames readings view.stage slot p r
collect_at (Unlinking p r b) s heads frames readings view slot =
    with_frames (unlinking_of s heads readings.frame view slot (keeping readings p) r b) frames

unfoldable pub collect_of : Ehci → ℕ → List ℕ → List ℕ → ℕ → Readings → View → ℕ → ℕ → Gathered
collect_of s pool heads frames setups readings view slot id =
    settle (first (collect_checks s (lengths pool (length heads) (length frames) setups) slot id))
    (λ x. gathered (refused_collect s x) heads frames)
    (collect_at (endpoint_at s slot) s heads frames readings view slot)
