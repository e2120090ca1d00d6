-- The slot that is looked for is closed, every lower one is not; and in a state in its ranges this is to be open.
use Rattle.std.specs.Prelude.{◌≡◌, ℕ, zero, suc, ◌+◌, ◌<◌, ◌≤◌, Bool, true, false, cond, eqb, ◌≢◌, List, get_or}
use mathlib.Core.Path.{refl, sym, ap, ◌∙◌}
use native.Mathlib.Decide.{ℕ_discrete as dec_eq}
use native.Mathlib.Omega.{arith}
use borrow.Author.Tests.{eqb-false, eqb-true}
use Rattle.slot.proofs.SlotLaws.{Phase, slot_tells}
use Rattle.state.specs.Plain.{Ehci}
use Rattle.state.specs.Slots.{slot_at}
use Rattle.state.proofs.RangesLaws.{Ranges}
use Rattle.pipe.specs.declared.endpoints.Endpoint.TheVariants.{Closed}
use Rattle.pipe.specs.Endpoints.{boundary_of, endpoint_at, pipe_of, request_of}
use Rattle.controller.specs.Readers.{has_endpoint, is_opened}
use Rattle.pipe.proofs.EndpointCases.{at_slot, decode_closed, decode_idle, decode_linked, decode_unlinking}
use Rattle.endpoint.specs.Lowest.{closed_from}
use Rattle.endpoint.specs.Calls.{lowest_slot}

module _ (l : List ℕ) where
  from_closed : (k n : ℕ) → closed_from l k n < k + n → get_or l (closed_from l k n) 0 ≡ 0
  unfolding closed_from
  from_closed k zero h = absurd (omega arith)
  from_closed k (suc n) h = go (eqb (get_or l k 0) 0) refl (λ g. from_closed (suc k) n g) h
    where
      go : (t : Bool) → eqb (get_or l k 0) 0 ≡ t
          → (closed_from l (suc k) n < suc k + n → get_or l (closed_from l (suc k) n) 0 ≡ 0)
          → cond t k (closed_from l (suc k) n) < k + suc n → get_or l (cond t k (closed_from l (suc k) n)) 0 ≡ 0
      go true q rec g = eqb-true (get_or l k 0) 0 q
      go false q rec g = rec (omega arith)

  from_lower : (k n j : ℕ) → k ≤ j → j < closed_from l k n → get_or l j 0 ≢ 0
  unfolding closed_from
  from_lower k zero j le lt = absurd (omega arith)
  from_lower k (suc n) j le lt = go (eqb (get_or l k 0) 0) refl (dec_eq k j) (λ g g'. from_lower (suc k) n j g g') lt
    where
      go : (t : Bool) → eqb (get_or l k 0) 0 ≡ t → Dec (k ≡ j)
          → (suc k ≤ j → j < closed_from l (suc k) n → get_or l j 0 ≢ 0)
          → j < cond t k (closed_from l (suc k) n) → get_or l j 0 ≢ 0
      go true q d rec g = absurd (omega arith)
      go false q (yes e) rec g = λ z. eqb-false (get_or l k 0) 0 q (ap (λ (i : ℕ). get_or l i 0) e ∙ z)
      go false q (no ne) rec g = rec (omega (arith, ne)) g

module _ (s : Ehci) (k : ℕ) (r : Ranges s) (lt : k < 32) where
  pub phase_shut : get_or s.phases k 0 ≡ 0 → endpoint_at s k ≡ Closed
  unfolding slot_at
  phase_shut z =
      sym
      (at_slot s k (slot_at s k) Closed lt refl
      (decode_closed (slot_at s k) (λ e. omega arith) (λ e. omega arith) (λ e. omega arith)))

  by_phase : Phase (slot_at s k) s.unanswered → (slot_at s k).phase ≢ 0 → is_opened s k ≡ true
  by_phase (Phase.closed p _ _ _) ne = absurd (ne p)
  by_phase (Phase.idle p _ _) ne =
      ap has_endpoint (sym (at_slot s k (slot_at s k) _ lt refl (decode_idle (slot_at s k) (pipe_of (slot_at s k)) p refl)))
  by_phase (Phase.linked p _ _ _ _ _) ne =
      ap has_endpoint
      (sym
      (at_slot s k (slot_at s k) _ lt refl
      (decode_linked (slot_at s k) (pipe_of (slot_at s k)) (request_of (slot_at s k)) p refl refl)))
  by_phase (Phase.unlinking p _ _ _ _ _) ne =
      ap has_endpoint
      (sym
      (at_slot s k (slot_at s k) _ lt refl
      (decode_unlinking (slot_at s k) (pipe_of (slot_at s k)) (request_of (slot_at s k)) (boundary_of (slot_at s k)) p refl refl refl)))

  pub phase_open : get_or s.phases k 0 ≢ 0 → is_opened s k ≡ true
  unfolding slot_at
  phase_open ne =
      by_phase (slot_tells s.settings.endpoints s.settings.limit k s.unanswered (slot_at s k) (r.slots k lt)).by_phase ne

module _ (s : Ehci) (r : Ranges s) where
  most : s.settings.endpoints ≤ 32
  most = r.good.endpoints_most

  pub lowest_closed_lem : lowest_slot s < s.settings.endpoints → endpoint_at s (lowest_slot s) ≡ Closed
  lowest_closed_lem lt =
      phase_shut s (lowest_slot s) r (omega (arith, most)) (from_closed s.phases 0 s.settings.endpoints (omega arith))

  -- also where none is closed: then every slot below E is open
  pub lower_open : (j : ℕ) → j < s.settings.endpoints → j < lowest_slot s → is_opened s j ≡ true
  lower_open j lt l =
      phase_open s j r (omega (arith, most)) (from_lower s.phases 0 s.settings.endpoints j (omega arith) l)
