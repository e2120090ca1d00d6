-- Acknowledge, drain, rearm, enable, disable.
use Rattle.std.specs.Prelude.{Ok}
use Prim.Native.Nat.{ℕ, ◌-◌}
use mathlib.Core.Bool.{Bool, true, false, not, cond}
use mathlib.Core.List.{[], ◌∷◌}
use mathlib.Core.Path.{◌≡◌, refl, sym, ap, ◌∙◌}
use borrow.Author.Tests.{eqb-true}
use lib.Bits.{or_zero_r}
use lib.Dec.{eqb}
use Rattle.register.specs.Bits.{any_of, only_bits, with_bits}
use Rattle.register.specs.Writes.{and_then, list_of, no_writes}
use Rattle.state.specs.Ranges.{in_ranges}
use Rattle.state.specs.State.{with_bell, with_boundaries, with_interrupt}
use Rattle.state.specs.Plain.{Ehci}
use Rattle.common.specs.Answers.{first}
use Rattle.common.specs.declared.answer.Refusal.TheVariants.{InvalidParameter}
use Rattle.common.proofs.CheckLaws.{settled_by}
use Rattle.schedule.specs.Bell.{advanced_of, must_ring, ring_of, some_ring}
use Rattle.interrupt.specs.Interrupts.{acknowledge_of, acknowledge_writes, acknowledged_state, count_if, counted_of, disable_of, drain_if, drain_of, enable_of, heard_if, mask_word, rearm_if, rearm_of, cleared_of}
use Rattle.interrupt.specs.Plain.{Acknowledgement}
use Rattle.interrupt.specs.Plain.{Drainage}
use Rattle.ehci.specs.declared.call.Call.{Call}
use Rattle.ehci.specs.declared.call.Call.TheVariants.{Acknowledge, Drain, Rearm, Enable, Disable}
use Rattle.ehci.specs.declared.call.InterruptReadings.{InterruptReadings}
use Rattle.ehci.specs.Decides.{acknowledge_decided, acknowledge_reply, drain_decided, drain_reply}
use Rattle.ehci.specs.Replies.{replied, settled_reply}
use Rattle.promises.specs.Runs.{World, core}
use Rattle.promises.specs.Registers as R
use Rattle.promises.specs.Registers.{acknowledged, left_of, ring}
use Rattle.promises.proofs.effects.EffectDoor.{through, settles, carried}
use Rattle.promises.proofs.effects.RefusalNumbers.{undone}
use Rattle.interrupt.specs.Plain.{Settled}
use Rattle.promises.proofs.effects.EffectInterrupts.{taken_done}
use Rattle.promises.proofs.invariants.Touches.{Level, Touches, level, refused_touches, rung_shape}

module _ (w : World) where
  abbrev s : Ehci
  s = w.state

  -- ---- acknowledge

  module _ (x : InterruptReadings) where
    abbrev p : ℕ
    p = acknowledged x

    abbrev Acked : Acknowledgement → Type 0
    Acked a = Touches w (Acknowledge x) (carried w (acknowledge_reply a))

    acknowledge_shape : (f g : Bool) → x.flag ≡ f → x.again ≡ g → eqb p 0 ≡ false
        → list_of (acknowledge_writes p x.interrupts x.flag x.again) ≡ R.acknowledge_writes x p
    unfolding acknowledge_writes mask_word and_then no_writes
    acknowledge_shape true true ef eg e = rw (ef, eg, e)
    acknowledge_shape true false ef eg e = rw (ef, eg, e)
    acknowledge_shape false true ef eg e = rw (ef, eg, e)
    acknowledge_shape false false ef eg e = rw (ef, eg, e)

    heard : (z : Bool) → eqb p 0 ≡ z → Acked (heard_if z s p x.interrupts x.flag x.again)
    unfolding acknowledged_state with_interrupt with_bell replied no_writes with_bits only_bits
    heard true e =
        let zero : p ≡ 0 = eqb-true p 0 e in
        record {
          pending = sym (ap (with_bits s.pending) zero ∙ or_zero_r s.pending);
          masked = sym (ap (λ (q : ℕ). with_bits s.masked (only_bits q 0x27)) zero ∙ or_zero_r s.masked);
          enabled = λ b q. q;
          step = refl;
          wrote = rw e;
        }
    heard false e =
        record {
          pending = refl;
          masked = refl;
          enabled = λ b q. q;
          step = refl;
          wrote = acknowledge_shape x.flag x.again refl refl e;
        }

    pub acknowledge_touches : Touches w (Acknowledge x) (core w (Acknowledge x))
    unfolding acknowledge_of acknowledge_decided replied no_writes
    acknowledge_touches =
        through Touches w (Acknowledge x) (refused_touches w (Acknowledge x) InvalidParameter refl refl)
        (settled_by (first ((not (in_ranges s), InvalidParameter) ∷ [])) _ _ Acked
        (λ r e. refused_touches w (Acknowledge x) r refl (rw (undone r)))
        (λ e. heard (eqb p 0) refl))

  -- ---- drain

  module _ (v : ℕ) where
    abbrev Drained : Drainage → Type 0
    Drained x = Touches w (Drain v) (carried w (drain_reply x))

    -- what is taken of what is pending
    taken_left : (q : ℕ) → (cleared_of q).left ≡ left_of q
    unfolding cleared_of
    taken_left q = by (any_of q 4) refl (any_of q 0x23) refl
      where
        by : (a : Bool) → any_of q 4 ≡ a → (b : Bool) → any_of q 0x23 ≡ b → (cleared_of q).left ≡ left_of q
        by true p b r = rw p
        by false p true r = rw (p, r)
        by false p false r = rw (p, r)

    counted_shape : (b : Bool) → list_of (count_if b s v).writes ≡ cond (some_ring (list_of (count_if b s v).writes)) (ring v) []
    unfolding no_writes advanced_of ring_of
    counted_shape true = refl
    counted_shape false = rung_shape (must_ring (record { noted = 0; doorbell = 0; unanswered = s.unanswered - 1 })) _ v

    counted_level : (b : Bool) → Level s (count_if b s v).state
    unfolding with_bell with_boundaries
    counted_level true = level s
    counted_level false = record { pending = refl; masked = refl; enabled = refl; step = refl }

    drained : (z : Bool) → eqb s.pending 0 ≡ z → Drained (drain_if z s (counted_of s v) (cleared_of s.pending))
    unfolding counted_of replied no_writes with_interrupt any_of
    drained true e =
        let zero : s.pending ≡ 0 = eqb-true s.pending 0 e in
        record {
          pending = zero ∙ sym (ap left_of zero);
          masked = refl;
          enabled = λ b q. q;
          step = refl;
          wrote = refl;
        }
    drained false e =
        let l = counted_level (eqb s.noted 0) in
        record {
          pending = taken_left s.pending ∙ sym (rw (taken_done s.pending));
          masked = l.masked ∙ sym (rw (taken_done s.pending));
          enabled = λ b q. l.enabled ∙ q ∙ sym (rw (taken_done s.pending));
          step = l.step;
          wrote = counted_shape (eqb s.noted 0);
        }

    pub drain_touches : Touches w (Drain v) (core w (Drain v))
    unfolding drain_of drain_decided replied no_writes
    drain_touches =
        through Touches w (Drain v) (refused_touches w (Drain v) InvalidParameter refl refl)
        (settled_by (first ((not (in_ranges s), InvalidParameter) ∷ [])) _ _ Drained
        (λ r e. refused_touches w (Drain v) r refl refl)
        (λ e. drained (eqb s.pending 0) refl))

  -- ---- rearm, enable, disable

  abbrev Settles : Call → Settled → Type 0
  Settles c x = Touches w c (carried w (settled_reply x))

  rearmed : (z b : Bool) → eqb s.masked 0 ≡ z → eqb s.enabled 0 ≡ b → Settles Rearm (rearm_if z s)
  unfolding settled_reply replied with_interrupt and_then no_writes
  rearmed true b e f =
      record { pending = refl; masked = eqb-true s.masked 0 e; enabled = λ c q. q; step = refl; wrote = sym (rw e) }
  rearmed false true e f =
      record { pending = refl; masked = refl; enabled = λ c q. q; step = refl; wrote = rw (e, f) }
  rearmed false false e f =
      record { pending = refl; masked = refl; enabled = λ c q. q; step = refl; wrote = rw (e, f) }

  pub rearm_touches : Touches w Rearm (core w Rearm)
  unfolding rearm_of
  rearm_touches =
      through Touches w Rearm (refused_touches w Rearm InvalidParameter refl refl)
      (settles Touches w Rearm (not (in_ranges s)) _ (refused_touches w Rearm InvalidParameter refl refl)
      (rearmed (eqb s.masked 0) (eqb s.enabled 0) refl refl))

  pub enable_touches : Touches w Enable (core w Enable)
  unfolding enable_of settled_reply replied with_interrupt and_then no_writes
  enable_touches =
      through Touches w Enable (refused_touches w Enable InvalidParameter refl refl)
      (settles Touches w Enable (not (in_ranges s)) (record { answer = Ok tt; state = with_interrupt s 1 s.pending s.masked; writes = and_then no_writes 8 0x27 }) (refused_touches w Enable InvalidParameter refl refl)
      (record { pending = refl; masked = refl; enabled = λ b q. refl; step = refl; wrote = refl }))

  pub disable_touches : Touches w Disable (core w Disable)
  unfolding disable_of settled_reply replied with_interrupt and_then no_writes
  disable_touches =
      through Touches w Disable (refused_touches w Disable InvalidParameter refl refl)
      (settles Touches w Disable (not (in_ranges s)) (record { answer = Ok tt; state = with_interrupt s 0 s.pending s.masked; writes = and_then no_writes 8 0 }) (refused_touches w Disable InvalidParameter refl refl)
      (record { pending = refl; masked = refl; enabled = λ b q. refl; step = refl; wrote = refl }))
