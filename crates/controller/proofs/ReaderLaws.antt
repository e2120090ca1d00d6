-- A slot from E on is closed, so an open one is below E.
use Rattle.std.specs.Prelude.{◌≡◌, ℕ, ◌<◌, ◌≤◌, Bool, true, false, ltb, ◌≢◌}
use mathlib.Core.Path.{refl, sym, ap, ◌∙◌}
use native.Mathlib.Omega.{arith}
use borrow.Author.Tests.{ltb-false, ltb-true}
use Rattle.common.proofs.TestLaws.{false_true}
use Rattle.slot.proofs.SlotLaws.{slot_tells}
use Rattle.state.specs.Slots.{slot_at}
use Rattle.state.specs.Plain.{Ehci}
use Rattle.state.proofs.RangesLaws.{Ranges}
use Rattle.pipe.specs.Endpoints.{endpoint_at}
use Rattle.pipe.specs.declared.endpoints.Endpoint.TheVariants.{Closed}
use Rattle.pipe.proofs.EndpointCases.{at_none, at_slot, decode_closed}
use Rattle.controller.specs.Readers.{has_endpoint, is_opened}

module _ (s : Ehci) (k : ℕ) where
  -- a slot that is closed is not open
  shut_not : endpoint_at s k ≡ Closed → is_opened s k ≡ true → ⊥
  shut_not e o = false_true (sym (ap has_endpoint e) ∙ o)

  pub open_below : is_opened s k ≡ true → k < 32
  open_below o = by (ltb k 32) refl
    where
      by : (t : Bool) → ltb k 32 ≡ t → k < 32
      by true q = ltb-true k 32 q
      by false q = absurd (shut_not (sym (at_none s k (ltb-false k 32 q))) o)

  pub open_phase : is_opened s k ≡ true → (slot_at s k).phase ≢ 0
  open_phase o z =
      shut_not
      (sym
      (at_slot s k (slot_at s k) Closed (open_below o) refl
      (decode_closed (slot_at s k) (λ e. omega (arith, e, z)) (λ e. omega (arith, e, z)) (λ e. omega (arith, e, z)))))
      o

  module _ (r : Ranges s) where
    pub shut_from : s.settings.endpoints ≤ k → endpoint_at s k ≡ Closed
    shut_from h = by (ltb k 32) refl
      where
        by : (t : Bool) → ltb k 32 ≡ t → endpoint_at s k ≡ Closed
        by true q =
            let lt : k < 32 = ltb-true k 32 q in
            let g = slot_tells s.settings.endpoints s.settings.limit k s.unanswered (slot_at s k) (r.slots k lt) in
            let z : (slot_at s k).phase ≡ 0 = g.closed_from_lem h in
            sym
            (at_slot s k (slot_at s k) Closed lt refl
            (decode_closed (slot_at s k) (λ e. omega arith) (λ e. omega arith) (λ e. omega arith)))
        by false q = sym (at_none s k (ltb-false k 32 q))

    pub open_within : is_opened s k ≡ true → k < s.settings.endpoints
    open_within o = by (ltb k s.settings.endpoints) refl
      where
        by : (t : Bool) → ltb k s.settings.endpoints ≡ t → k < s.settings.endpoints
        by true q = ltb-true k s.settings.endpoints q
        by false q = absurd (shut_not (shut_from (ltb-false k s.settings.endpoints q)) o)
