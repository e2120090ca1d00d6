-- Clear-halt: what an answer tells of the state before and of what is left.
use Rattle.std.specs.Prelude.{◌≡◌, ℕ, ◌<◌, true, false, not, Err, Ok}
use mathlib.Core.Path.{refl, sym, ap, ◌∙◌}
use native.Mathlib.Omega.{arith}
use borrow.Author.Tests.{not-false}
use Rattle.common.specs.Answers.{Verdict, first}
use Rattle.common.specs.declared.answer.Refusal.{Refusal}
use Rattle.common.specs.declared.answer.Refusal.TheVariants.{InvalidEndpoint, InvalidParameter, QueueFull}
use Rattle.common.proofs.CheckLaws.{let_pass, settled_by}
use Rattle.common.proofs.TestLaws.{false_true}
use Rattle.slot.specs.declared.slot.Slot.{Slot}
use Rattle.slot.proofs.SlotLaws.{Phase, slot_tells}
use Rattle.state.specs.Plain.{Ehci}
use Rattle.state.specs.Ranges.{in_ranges}
use Rattle.state.specs.Slots.{slot_at}
use Rattle.state.proofs.RangesLaws.{ranges_tell}
use Rattle.pipe.specs.declared.endpoints.Endpoint.TheVariants.{Closed, Idle}
use Rattle.pipe.specs.Endpoints.{boundary_of, endpoint_at, pipe_of, request_of, with_endpoint, with_toggle}
use Rattle.pipe.proofs.EndpointCases.{at_slot, decode_closed, decode_idle, decode_linked, decode_unlinking}
use Rattle.controller.specs.Readers.{has_endpoint, holds_request, is_opened, is_uncollected}
use Rattle.controller.proofs.ReaderLaws.{open_below}
use Rattle.endpoint.specs.Calls.{clear_checks, clear_halt_of}
use Rattle.endpoint.specs.Plain.{Change}

module _ (s : Ehci) (k : ℕ) where
  -- the state, where its checks let it pass
  pub record Clears : Type 0 where
    pub ranged : in_ranges s ≡ true
    pub is_open : is_opened s k ≡ true
    pub is_idle_lem : is_uncollected s k ≡ false

  clears : first (clear_checks s k) ≡ Verdict.passed → Clears
  clears e =
      let r = let_pass (not (in_ranges s)) InvalidParameter _ e in
      let o = let_pass (not (is_opened s k)) InvalidEndpoint _ r.1 in
      let c = let_pass (is_uncollected s k) QueueFull _ o.1 in
      record { ranged = not-false (in_ranges s) r.0; is_open = not-false (is_opened s k) o.0; is_idle_lem = c.0 }

  -- it either refuses and leaves the state as it was, or clears the toggle
  pub clear_by : (P : Change → Type 0) → ((r : Refusal) → P (record { answer = Err r; state = s }))
      → (Clears → P (record { answer = Ok tt; state = with_endpoint s k (Idle (with_toggle (pipe_of (slot_at s k)) false)) })) → P (clear_halt_of s k)
  unfolding clear_halt_of
  clear_by P denied done = settled_by (first (clear_checks s k)) _ _ P (λ r e. denied r) (λ e. done (clears e))

  module _ (from : Clears) where
    abbrev slot : Slot
    slot = slot_at s k

    room : k < 32
    room = open_below s k from.is_open

    by_phase : Phase slot s.unanswered → slot.phase ≡ 1
    by_phase (Phase.closed p _ _ _) =
        absurd (false_true (ap has_endpoint (at_slot s k slot Closed room refl (decode_closed slot (λ q. omega arith) (λ q. omega arith) (λ q. omega arith))) ∙ from.is_open))
    by_phase (Phase.idle p o _) = p
    by_phase (Phase.linked p _ _ _ _ _) =
        absurd (false_true (sym from.is_idle_lem ∙ sym (ap holds_request (at_slot s k slot _ room refl (decode_linked slot (pipe_of slot) (request_of slot) p refl refl)))))
    by_phase (Phase.unlinking p _ _ _ _ _) =
        absurd (false_true (sym from.is_idle_lem ∙ sym (ap holds_request (at_slot s k slot _ room refl (decode_unlinking slot (pipe_of slot) (request_of slot) (boundary_of slot) p refl refl refl)))))

    pub clear_idle : endpoint_at s k ≡ Idle (pipe_of slot)
    clear_idle =
        let phase = by_phase (slot_tells s.settings.endpoints s.settings.limit k s.unanswered slot ((ranges_tell s from.ranged).slots k room)).by_phase in
        sym (at_slot s k slot (Idle (pipe_of slot)) room refl (decode_idle slot (pipe_of slot) phase refl))
