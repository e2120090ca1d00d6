-- What a call that is accepted knows of a slot with a request.
use Rattle.std.specs.Prelude.{◌≡◌, ℕ, ◌+◌, ◌*◌, ◌^◌, ◌<◌, ◌≤◌, Bool, true, false, not, List, length}
use mathlib.Core.Path.{sym, ◌∙◌}
use borrow.Author.Tests.{lt-ltb, not-false}
use Rattle.state.specs.Plain.{Ehci}
use Rattle.state.specs.Slots.{slot_at}
use Rattle.state.proofs.RangesLaws.{Ranges}
use Rattle.pipe.specs.Endpoints.{endpoint_at}
use Rattle.controller.specs.Lent.{accepts_of, lengths}
use Rattle.controller.specs.Readers.{is_opened}
use Rattle.pipe.specs.declared.endpoints.Endpoint.{Endpoint}
use Rattle.pipe.proofs.EndpointLaws.{EndpointGood, endpoint_tells}
use Rattle.controller.proofs.LentLaws.{Accepted, accepts_tells}
use Rattle.controller.proofs.ReaderLaws.{open_below, open_within}

-- its endpoint is as the ranges say
pub endpoint_good : (s : Ehci) (k : ℕ) → Ranges s → k < 32 → EndpointGood s.settings.limit s.unanswered (endpoint_at s k)
unfolding endpoint_at
endpoint_good s k r h = rw (lt-ltb k 32 h) (endpoint_tells s.settings.endpoints s.settings.limit k s.unanswered (slot_at s k) (r.slots k h))

module _ (s : Ehci) (pool : ℕ) (h f : List ℕ) (setups k : ℕ) (b : Bool) (eb : b ≡ accepts_of s (lengths pool (length h) (length f) setups)) (t : not b ≡ false)
    (x : Endpoint) (ex : x ≡ endpoint_at s k) where
  accepted : Accepted s (lengths pool (length h) (length f) setups)
  accepted = accepts_tells s (lengths pool (length h) (length f) setups) (sym eb ∙ not-false b t)

  ready : is_opened s k ≡ true
      → (k < 32) × (k < s.settings.endpoints) × (s.settings.endpoints ≤ 32) × (s.settings.descriptors ≤ 256)
      × (length h ≡ 17 * (s.settings.endpoints + 1)) × (length f ≡ 1024) × (s.settings.heads + 128 * (s.settings.endpoints + 1) ≤ 2 ^ 32)
  ready o =
      let a = accepted in (
        open_below s k o,
        open_within s k a.ranges o,
        a.ranges.good.endpoints_most,
        a.ranges.good.descriptors_most,
        a.fitting.heads_fit,
        a.fitting.frames_fit,
        a.ranges.good.heads_end,
      )
