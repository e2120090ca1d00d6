-- What a call that is lent the core alone leaves unjudged: a core in its ranges with every slot closed is in its ranges, so the call decides.
use Rattle.std.specs.Prelude.{◌≡◌, ℕ, ◌+◌, ◌*◌, ◌<◌, Bool, true, false, eqb, List, length, Ok}
use mathlib.Core.Path.{refl, ap, ◌∙◌}
use native.Mathlib.Omega.{arith}
use Rattle.descriptor.specs.declared.qtd.QueueTransferDescriptor.{QueueTransferDescriptor as Record}
use Rattle.register.specs.Bits.{only_bits}
use Rattle.slot.specs.Ids.{after_id}
use Rattle.slot.specs.Ranges.{slot_good}
use Rattle.slot.proofs.SlotLaws.{Phase, slot_makes}
use Rattle.state.specs.Plain.{Ehci}
use Rattle.state.specs.Ranges.{in_ranges, owner_good}
use Rattle.state.specs.Slots.{slot_at}
use Rattle.state.proofs.RangesLaws.{slot_right, slots_make}
use Rattle.words.specs.declared.cores.Core.{Core}
use Rattle.words.specs.declared.cores.Rest.{Rest}
use Rattle.words.specs.Opened.{opened_rest, opened_row}
use Rattle.words.specs.Record.{slot_in}
use Rattle.words.specs.View.{state_of, view}
use Rattle.words.proofs.OpenedLaws.{tidy_opened, zeros_at}
use Rattle.words.proofs.ViewLaws.{view_slot}
use Rattle.word_ranges.proofs.CoreLaws.{core_ranges}
use Rattle.word_ranges.proofs.OwnerLaws.{owners_good}
use Rattle.interrupt.specs.Interrupts.{acknowledge_of}
use Rattle.interrupt.specs.Words.{acknowledged_view}
use Rattle.interrupt.specs.Plain.{Acknowledgement as AcknowledgementPlain}
use Rattle.direct_calls.specs.Refusals.{refused_acknowledgement}
use Rattle.direct_calls.specs.Shapes.{CoreCall, takes_core}
use Rattle.ehci.specs.declared.call.Call.{Call}
use Rattle.ehci.specs.WordsDoor.{accepts_words, apply_words}
use Rattle.ehci_calls.specs.Arms.{Unjudged}
use Rattle.controller.specs.declared.left.Settled.{Settled}

-- ---- a core in its ranges, with every slot closed, is in its ranges

closed_slot : (E limit k u : ℕ) → slot_good E limit k u (slot_in 0 0) ≡ true
unfolding slot_in after_id
closed_slot E limit k u =
    slot_makes E limit k u (slot_in 0 0)
    (record {
      id_least = omega arith;
      closed_from_lem = λ h. refl;
      size_none = λ h. refl;
      size_open = λ n. absurd (n refl);
      toggle_none = λ h. refl;
      toggle_flag = omega arith;
      by_phase =
          Phase.closed refl refl refl
          (record { request_none = refl; direction_none = refl; length_none = refl; cancel_none = refl; boundary_none = refl });
    })

module _ (c : Core) where
  abbrev row : List ℕ
  row = opened_row c.settings.endpoints

  closed_at_lem : (k : ℕ) → k < 32 → slot_right (view c row) k ≡ true
  unfolding state_of
  closed_at_lem k h = seen
    where
      seen : slot_good c.settings.endpoints c.settings.limit k c.rest.unanswered (slot_at (view c row) k) ≡ true
      seen =
          ap (slot_good c.settings.endpoints c.settings.limit k c.rest.unanswered) (view_slot c.settings c.rest row k h)
          ∙ rw (zeros_at (6 * c.settings.endpoints) (6 * k), zeros_at (6 * c.settings.endpoints) (6 * k + 1))
          (closed_slot c.settings.endpoints c.settings.limit k c.rest.unanswered)

  closed_owners : owner_good (view c row).owner c.settings.descriptors c.settings.endpoints ≡ true
  unfolding state_of
  closed_owners = owners_good c.settings (opened_rest c.settings.descriptors) row (tidy_opened c.settings)

  pub closed_ranges : takes_core c ≡ true → in_ranges (view c row) ≡ true
  closed_ranges e =
      core_ranges c.settings c.rest row e closed_owners (slots_make (view c row) 0 32 (λ k h h'. closed_at_lem k (omega arith)))

  -- ---- what is left unjudged

  module _ (e : takes_core c ≡ true) (ws : List ℕ) (pool : List Record) (heads frames setups : List ℕ) (no : accepts_words c ws (length pool) (length heads) (length frames) (length setups) ≡ false) where
    pub core_unjudged : {R S : Type 0} (r refusal : R) (rest : Rest) (seen : List ℕ → S) (decides : Ehci → S) → CoreCall c r refusal rest seen decides
        → (call : Call) → Unjudged c ws pool heads frames setups call seen decides
    unfolding apply_words
    core_unjudged r refusal rest seen decides does call =
        record { door_refuses = rw no; call_decides = does.decided row (closed_ranges e) }

  -- an interrupt is acknowledged, whatever the rows are
  pub acknowledge_unjudged : takes_core c ≡ true → (r : (Settled Bool)) (status interrupts : ℕ) (flag again : Bool)
      → CoreCall c r (refused_acknowledgement c.rest) r.rest (acknowledged_view c.settings r) (λ s. acknowledge_of s status interrupts flag again)
      → eqb (only_bits status 0x37) 0 ≡ false → r.answer ≡ (Ok true)
  unfolding acknowledge_of
  acknowledge_unjudged e r status interrupts flag again does some =
      ap (λ (x : AcknowledgementPlain). x.answer) (does.decided row (closed_ranges e)) ∙ rw (closed_ranges e, some)
