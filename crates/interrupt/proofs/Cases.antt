-- The returns of the interrupt calls.
use Rattle.std.specs.Prelude.{◌≡◌, ℕ, ◌≤◌, Bool, true, false, not, eqb, leb, List, Ok}
use mathlib.Core.Bool.{beq}
use mathlib.Core.Path.{sym, ◌∙◌}
use native.Mathlib.Omega.{arith}
use borrow.Author.Tests.{eq-eqb, ne_eqb, leb-true, not-false}
use Rattle.register.specs.Bits.{with_bits, without_bits, only_bits, any_of}
use Rattle.register.specs.Writes.{no_writes, and_then}
use Rattle.register.specs.declared.writes.Writes.{Writes}
use Rattle.token.specs.Tokens.{only_if}
use Rattle.state.specs.Ranges.{in_ranges, rest_good, machine_good, interrupt_good, doorbell_good}
use Rattle.settings.specs.Settings.{settings_good}
use Rattle.state.specs.State.{with_interrupt, with_bell, with_boundaries}
use Rattle.state.specs.Plain.{Ehci}
use Rattle.common.proofs.TestLaws.{both_first, both_second, within_least}
use Rattle.schedule.specs.Bell.{advanced_of, bell_of, fallen_from}
use Rattle.schedule.proofs.WordsCases.{same_is}
use Rattle.schedule.specs.declared.bell.Rung.{Rung}
use Rattle.interrupt.specs.Plain.{Acknowledgement}
use Rattle.interrupt.specs.declared.answers.Event.TheVariants.{Nothing, PortChange, TransferActivity, Stopped}
use Rattle.interrupt.specs.Plain.{Drainage}
use Rattle.interrupt.specs.Plain.{Settled}
use Rattle.interrupt.specs.Plain.{Counted}
use Rattle.interrupt.specs.declared.drain.Cleared.{Cleared}
use Rattle.interrupt.specs.Interrupts.{mask_word, acknowledge_writes, noted_after, acknowledged_state, acknowledge_of, counted_of, cleared_of, drain_of, rearm_of, enable_of, disable_of}

-- ---- acknowledge

pub mask_on : (p i : ℕ) (f : Bool) (o r : ℕ) → f ≡ true → o ≡ only_bits p 39 → r ≡ without_bits i o → r ≡ mask_word p i f
unfolding mask_word
mask_on p i f o r e eo er = er ∙ rw (eo, e)

pub mask_off : (p i : ℕ) (f : Bool) → f ≡ false → 0 ≡ mask_word p i f
unfolding mask_word
mask_off p i f e = rw e

module _ (p i : ℕ) (f g : Bool) (w₀ w₁ w₂ : Writes) (m : ℕ) (e₀ : w₀ ≡ no_writes) (e₁ : w₁ ≡ and_then w₀ 4 p) (em : m ≡ mask_word p i f) (e₂ : w₂ ≡ and_then w₁ 8 m) where
  pub writes_once : beq f g ≡ true → w₂ ≡ acknowledge_writes p i f g
  unfolding acknowledge_writes
  writes_once h = rw (e₂, e₁, e₀, em, sym (same_is f g) ∙ h)

  pub writes_again : beq f g ≡ false → (n : ℕ) (w₃ : Writes) → n ≡ mask_word p i g → w₃ ≡ and_then w₂ 8 n → w₃ ≡ acknowledge_writes p i f g
  unfolding acknowledge_writes
  writes_again h n w₃ en e₃ = rw (e₃, en, e₂, e₁, e₀, em, sym (same_is f g) ∙ h)

module _ (s : Ehci) (st i : ℕ) (f g : Bool) (b : Bool) (eb : b ≡ in_ranges s) (w : Writes) where
  pub ack_no : not b ≡ false → w ≡ no_writes → (p : ℕ) → p ≡ only_bits st 55 → p ≡ 0
      → ◌≡◌ {A = Acknowledgement} (record { answer = Ok false; state = s; writes = w }) (acknowledge_of s st i f g)
  unfolding acknowledge_of
  ack_no t ew p ep z = rw (ew, sym eb ∙ not-false b t, sym ep ∙ z)

  pub ack_yes : not b ≡ false → (p n pend o mask : ℕ) → p ≡ only_bits st 55 → (p ≡ 0 → ⊥) → n ≡ noted_after s p
      → pend ≡ with_bits s.pending p → o ≡ only_bits p 39 → mask ≡ with_bits s.masked o → w ≡ acknowledge_writes p i f g
      → ◌≡◌ {A = Acknowledgement}
      (record { answer = Ok true; state = with_bell (with_interrupt s s.enabled pend mask) n s.doorbell s.unanswered; writes = w })
      (acknowledge_of s st i f g)
  unfolding acknowledge_of acknowledged_state
  ack_yes t p n pend o mask ep z en ed eo em ew =
      rw (ew, en, ed, em, eo, sym eb ∙ not-false b t, sym ep, ne_eqb p 0 z)

-- ---- drain

module _ (s : Ehci) (cmd : ℕ) where
  pub count_none : (w : Writes) → s.noted ≡ 0 → w ≡ no_writes → ◌≡◌ {A = Counted} (record { state = s; writes = w }) (counted_of s cmd)
  unfolding counted_of
  count_none w z ew = rw (ew, eq-eqb s.noted 0 z)

  pub count_one : (w : Writes) (r : Rung) (l : List ℕ) → (s.noted ≡ 0 → ⊥) → w ≡ no_writes → r ≡ advanced_of (bell_of s) w cmd
      → l ≡ fallen_from 0 32 s.phases s.kinds s.boundaries
      → ◌≡◌ {A = Counted}
      (record {
        state = with_boundaries (with_bell s r.bell.noted r.bell.doorbell r.bell.unanswered) l;
        writes = r.writes;
      })
      (counted_of s cmd)
  unfolding counted_of
  count_one w r l z ew er el = rw (el, er, ew, ne_eqb s.noted 0 z)

-- a note means that an unlink is unanswered
pub noted_unanswered : (s : Ehci) → in_ranges s ≡ true → (s.noted ≡ 0 → ⊥) → 1 ≤ s.unanswered
unfolding in_ranges rest_good doorbell_good
noted_unanswered s e z =
    let rest = both_second (settings_good s.settings) _ e in
    let bell = both_first (doorbell_good s) _ (both_second (interrupt_good s) _ (both_second (machine_good s) _ rest)) in
    let later = both_second (leb s.doorbell 1) _ bell in
    omega (
      arith,
      leb-true s.noted s.doorbell (both_first _ _ later),
      within_least s.unanswered s.doorbell 32 (both_first _ _ (both_second (leb s.noted s.doorbell) _ later)),
    )

module _ (n : ℕ) (a : Bool) (ea : a ≡ any_of n 4) where
  pub take_port : (l : ℕ) → a ≡ true → l ≡ without_bits n 4 → ◌≡◌ {A = Cleared} (record { event = PortChange; left = l }) (cleared_of n)
  unfolding cleared_of
  take_port l t el = rw (el, sym ea ∙ t)

  pub take_activity : (b : Bool) (l : ℕ) → a ≡ false → b ≡ any_of n 35 → b ≡ true → l ≡ without_bits n 35
      → ◌≡◌ {A = Cleared} (record { event = TransferActivity; left = l }) (cleared_of n)
  unfolding cleared_of
  take_activity b l t eb u el = rw (el, sym ea ∙ t, sym eb ∙ u)

  pub take_rest : (b : Bool) → a ≡ false → b ≡ any_of n 35 → b ≡ false → ◌≡◌ {A = Cleared} (record { event = Stopped; left = 0 }) (cleared_of n)
  unfolding cleared_of
  take_rest b t eb u = rw (sym ea ∙ t, sym eb ∙ u)

module _ (s : Ehci) (cmd : ℕ) (b : Bool) (eb : b ≡ in_ranges s) where
  pub drain_nothing : (w : Writes) → not b ≡ false → s.pending ≡ 0 → w ≡ no_writes
      → ◌≡◌ {A = Drainage} (record { answer = Ok Nothing; state = s; writes = w }) (drain_of s cmd)
  unfolding drain_of
  drain_nothing w t z ew = rw (ew, sym eb ∙ not-false b t, eq-eqb s.pending 0 z)

  pub drain_some : (c : Counted) (k : Cleared) → not b ≡ false → (s.pending ≡ 0 → ⊥) → c ≡ counted_of s cmd → k ≡ cleared_of s.pending
      → ◌≡◌ {A = Drainage}
      (record {
        answer = Ok k.event;
        state = with_interrupt c.state c.state.enabled k.left c.state.masked;
        writes = c.writes;
      })
      (drain_of s cmd)
  unfolding drain_of
  drain_some c k t z ec ek = rw (ec, ek, sym eb ∙ not-false b t, ne_eqb s.pending 0 z)

-- ---- rearm, enable, disable

pub word_on : (n : ℕ) → (n ≡ 0 → ⊥) → 39 ≡ only_if (not (eqb n 0)) 39
word_on n h = rw (ne_eqb n 0 h)

pub word_off : (n : ℕ) → n ≡ 0 → 0 ≡ only_if (not (eqb n 0)) 39
word_off n h = rw (eq-eqb n 0 h)

module _ (s : Ehci) (b : Bool) (eb : b ≡ in_ranges s) (w w' : Writes) (ew : w ≡ no_writes) where
  pub rearm_none : not b ≡ false → s.masked ≡ 0 → ◌≡◌ {A = Settled} (record { answer = Ok tt; state = s; writes = w }) (rearm_of s)
  unfolding rearm_of
  rearm_none t z = rw (ew, sym eb ∙ not-false b t, eq-eqb s.masked 0 z)

  pub rearm_some : not b ≡ false → (s.masked ≡ 0 → ⊥) → (v : ℕ) → v ≡ only_if (not (eqb s.enabled 0)) 39 → w' ≡ and_then w 8 v
      → ◌≡◌ {A = Settled} (record { answer = Ok tt; state = with_interrupt s s.enabled s.pending 0; writes = w' }) (rearm_of s)
  unfolding rearm_of
  rearm_some t z v ev e = rw (e, ew, ev, sym eb ∙ not-false b t, ne_eqb s.masked 0 z)

  pub enable_done : not b ≡ false → w' ≡ and_then w 8 39
      → ◌≡◌ {A = Settled} (record { answer = Ok tt; state = with_interrupt s 1 s.pending s.masked; writes = w' }) (enable_of s)
  unfolding enable_of
  enable_done t e = rw (e, ew, sym eb ∙ not-false b t)

  pub disable_done : not b ≡ false → w' ≡ and_then w 8 0
      → ◌≡◌ {A = Settled} (record { answer = Ok tt; state = with_interrupt s 0 s.pending s.masked; writes = w' }) (disable_of s)
  unfolding disable_of
  disable_done t e = rw (e, ew, sym eb ∙ not-false b t)
