-- Acknowledge, drain, rearm, enable, disable.
use Rattle.std.specs.Prelude.{Ok}
use Prim.Native.Nat.{ℕ, ◌≤◌, min}
use mathlib.Core.Bool.{Bool, true, false, not, cond, ◌&&◌}
use mathlib.Core.List.{[], ◌∷◌}
use mathlib.Core.Logic.{inl, inr}
use mathlib.Core.Path.{◌≡◌, refl, sym, ap, ◌∙◌}
use native.Mathlib.Omega.{arith}
use borrow.Author.Tests.{eq-eqb, eqb-false, eqb-true, ne_eqb}
use lib.Dec.{eqb, lit<}
use Rattle.common.proofs.CheckLaws.{settled_by}
use Rattle.register.specs.Bits.{any_of, bit, only_bits, with_bits, without_bits}
use Rattle.register.specs.Writes.{and_then, list_of, no_writes}
use Rattle.register.proofs.BitLaws.{only_bit}
use Rattle.register.proofs.FieldLaws.{any_field}
use Rattle.common.proofs.TestLaws.{both_second}
use Rattle.state.specs.Ranges.{in_ranges}
use Rattle.state.specs.State.{with_bell, with_boundaries, with_interrupt}
use Rattle.state.specs.Plain.{Ehci}
use Rattle.state.proofs.RangesLaws.{Ranges}
use Rattle.common.specs.Answers.{first}
use Rattle.common.specs.declared.answer.Refusal.TheVariants.{InvalidParameter}
use Rattle.schedule.specs.Links.{same}
use Rattle.interrupt.specs.Interrupts.{acknowledge_of, acknowledge_writes, acknowledged_state, count_if, counted_of, disable_of, drain_if, drain_of, enable_of, heard_if, note_if, noted_after, rearm_if, rearm_of, cleared_of}
use Rattle.interrupt.specs.Plain.{Acknowledgement}
use Rattle.interrupt.specs.Plain.{Drainage}
use Rattle.ehci.specs.declared.call.Call.TheVariants.{Acknowledge, Disable, Drain, Enable, Rearm}
use Rattle.ehci.specs.declared.call.InterruptReadings.{InterruptReadings}
use Rattle.ehci.specs.Decides.{acknowledge_decided, acknowledge_reply, drain_decided, drain_reply}
use Rattle.ehci.specs.Replies.{drained_answer, replied, settled_reply}
use Rattle.promises.specs.Runs.{World, core}
use Rattle.promises.specs.Events.{Drains, Other, Reads, is_done}
use Rattle.schedule.specs.Bell.{some_ring}
use Rattle.promises.proofs.effects.RefusalNumbers.{undone}
use Rattle.promises.proofs.effects.Effects.{Effect, Sides, counts, hears, joins, passes}
use Rattle.promises.proofs.effects.EffectDoor.{idles_on, refused_still, rows_kept, sides_of, still_of, through, settles, carried, sides_with}
use Rattle.promises.proofs.effects.EffectRanges.{counted_keeps, interrupt_keeps, joined_none, note_keeps, only_falls, only_joins, only_masked, only_none}

-- ---- acknowledge

-- the advance bit of USBSTS is among the bits that are acknowledged
advance_bit : (st : ℕ) → any_of (only_bits st 0x37) 0x20 ≡ eqb (bit st 5) 1
advance_bit st = any_field (only_bits st 0x37) 5 1 ∙ by (eqb (bit st 5) 1) refl
  where
    here : bit (only_bits st 0x37) 5 ≡ min (bit st 5) 1
    here = only_bit st 0x37 5

    by : (b : Bool) → eqb (bit st 5) 1 ≡ b → not (eqb (bit (only_bits st 0x37) 5) 0) ≡ eqb (bit st 5) 1
    by true e = rw (e, ne_eqb (bit (only_bits st 0x37) 5) 0 (λ z. omega (arith, here, eqb-true (bit st 5) 1 e, z)))
    by false e =
        rw (e, eq-eqb (bit (only_bits st 0x37) 5) 0 (omega (arith, here, eqb-false (bit st 5) 1 e)))

-- none where nothing is acknowledged
none_read : (st : ℕ) → only_bits st 0x37 ≡ 0 → eqb (bit st 5) 1 ≡ false
unfolding any_of
none_read st z = sym (advance_bit st) ∙ rw z

writes_silent : (p i : ℕ) (f g : Bool) → some_ring (list_of (acknowledge_writes p i f g)) ≡ false
unfolding acknowledge_writes and_then no_writes
writes_silent p i f g = by (same f g) refl
  where
    by : (b : Bool) → same f g ≡ b → some_ring (list_of (acknowledge_writes p i f g)) ≡ false
    by true e = rw e
    by false e = rw e

module _ (w : World) (x : InterruptReadings) where
  abbrev s : Ehci
  s = w.state

  abbrev p : ℕ
  p = only_bits x.status 0x37

  abbrev joined : Sides
  joined = sides_with s s.enabled (with_bits s.pending p) (with_bits s.masked (only_bits p 0x27))

  note_most : (b : Bool) → (b ≡ true → s.doorbell ≡ 1) → Ranges s → note_if b s.noted ≤ s.doorbell
  note_most true h r = omega (arith, h refl)
  note_most false h r = r.noted_most

  acknowledged_keeps : Ranges s → Ranges (acknowledged_state s p)
  unfolding acknowledged_state with_interrupt noted_after
  acknowledged_keeps r =
      note_keeps (with_interrupt s s.enabled (with_bits s.pending p) (with_bits s.masked (only_bits p 0x27))) _
      (note_most (any_of p 0x20 && eqb s.doorbell 1) up r)
      (interrupt_keeps s s.enabled (with_bits s.pending p) (with_bits s.masked (only_bits p 0x27)) r.enabled_flag
      (only_joins 0x37 (lit< tt) s.pending x.status r.pending_only) (only_masked s.masked p r.masked_only) r)
    where
      up : (any_of p 0x20 && eqb s.doorbell 1) ≡ true → s.doorbell ≡ 1
      up e = eqb-true s.doorbell 1 (both_second (any_of p 0x20) (eqb s.doorbell 1) e)

  abbrev Acked : Acknowledgement → Type 0
  Acked a =
      Effect w (Acknowledge x) (carried w (acknowledge_reply a))

  heard : (z : Bool) → eqb p 0 ≡ z → (b : Bool) → eqb (bit x.status 5) 1 ≡ b → Acked (heard_if z s p x.interrupts x.flag x.again)
  unfolding acknowledged_state with_interrupt with_bell noted_after replied no_writes
  heard true e b q =
      let none = none_read x.status (eqb-true p 0 e) in
      still_of w (Acknowledge x) _ _ _ (sides_of s) refl refl (ap (λ (t : Bool). cond t Reads Other) none) (λ g. g) refl (λ i. i) refl
  heard false e true q =
      hears
      (record {
        sides = joined;
        state_is = rw (advance_bit x.status ∙ q);
        rows_are = rows_kept w (Acknowledge x) w.rows.heads w.rows.frames w.rows.setups;
        silent = writes_silent p x.interrupts x.flag x.again;
        hears = ap (λ (t : Bool). cond t Reads Other) q;
        keeps = acknowledged_keeps;
        pends = λ z. eqb-false p 0 e (joined_none s.pending p z).1;
        runs_on = (refl, refl);
        same = refl;
      })
  heard false e false q =
      joins
      (record {
        sides = joined;
        state_is = rw (advance_bit x.status ∙ q);
        rows_are = rows_kept w (Acknowledge x) w.rows.heads w.rows.frames w.rows.setups;
        silent = writes_silent p x.interrupts x.flag x.again;
        nothing = ap (λ (t : Bool). cond t Reads Other) q;
        keeps = acknowledged_keeps;
        pends = λ z. (joined_none s.pending p z).0;
        runs_on = (refl, refl);
        same = refl;
      })

  pub acknowledge_effect : Effect w (Acknowledge x) (core w (Acknowledge x))
  unfolding acknowledge_of acknowledge_decided replied no_writes
  acknowledge_effect =
      through Effect w (Acknowledge x) (refused_still w (Acknowledge x) InvalidParameter refl refl)
      (settled_by (first ((not (in_ranges s), InvalidParameter) ∷ [])) _ _ Acked
      (λ r e. refused_still w (Acknowledge x) r (rw (undone r)) refl)
      (λ e. heard (eqb p 0) refl (eqb (bit x.status 5) 1) refl))

-- ---- drain

-- what is taken is an event, and no refusal
pub taken_done : (q : ℕ) → is_done (drained_answer (Ok (cleared_of q).event)) ≡ true
unfolding cleared_of
taken_done q = by (any_of q 4) refl (any_of q 0x23) refl
  where
    by : (a : Bool) → any_of q 4 ≡ a → (b : Bool) → any_of q 0x23 ≡ b → is_done (drained_answer (Ok (cleared_of q).event)) ≡ true
    by true p b r = rw p
    by false p true r = rw (p, r)
    by false p false r = rw (p, r)

module _ (w : World) (command : ℕ) where
  abbrev d : Ehci
  d = w.state

  -- what is pending after an event is taken
  taken_only : without_bits d.pending 0x37 ≡ 0 → without_bits (cleared_of d.pending).left 0x37 ≡ 0
  unfolding cleared_of
  taken_only e = by (any_of d.pending 4) refl (any_of d.pending 0x23) refl
    where
      by : (a : Bool) → any_of d.pending 4 ≡ a → (b : Bool) → any_of d.pending 0x23 ≡ b → without_bits (cleared_of d.pending).left 0x37 ≡ 0
      by true p b q = rw p (only_falls 0x37 (lit< tt) d.pending 4 (lit< tt) e)
      by false p true q = rw (p, q) (only_falls 0x37 (lit< tt) d.pending 0x23 (lit< tt) e)
      by false p false q = rw (p, q) (only_none 0x37 (lit< tt))

  abbrev taken : Sides
  taken = sides_with d d.enabled (cleared_of d.pending).left d.masked

  abbrev Drained : Drainage → Type 0
  Drained x =
      Effect w (Drain command) (carried w (drain_reply x))

  drained_as : (b : Bool) → b ≡ true → cond b Drains Other ≡ Drains
  drained_as b e = rw e

  uncounted : (n : Bool) → eqb d.noted 0 ≡ n → Drained (drain_if false d (count_if n d command) (cleared_of d.pending))
  unfolding with_interrupt replied no_writes with_bell with_boundaries
  uncounted true e =
      passes
      (record {
        sides = taken;
        state_is = refl;
        rows_are = rows_kept w (Drain command) w.rows.heads w.rows.frames w.rows.setups;
        silent = refl;
        drains = drained_as _ (taken_done d.pending);
        keeps = λ r. interrupt_keeps d d.enabled _ d.masked r.enabled_flag (taken_only r.pending_only) r.masked_only r;
        uncounted = inl (eqb-true d.noted 0 e);
        runs_on = (refl, refl);
        same = refl;
      })
  uncounted false e =
      let noted : d.noted ≡ 0 → ⊥ = eqb-false d.noted 0 e in
      counts
      (record {
        sides = taken;
        command = command;
        noted = noted;
        state_is = refl;
        writes_are = refl;
        rows_are = rows_kept w (Drain command) w.rows.heads w.rows.frames w.rows.setups;
        drains = drained_as _ (taken_done d.pending);
        keeps = λ r.
            interrupt_keeps (count_if false d command).state d.enabled _ d.masked r.enabled_flag (taken_only r.pending_only) r.masked_only
            (counted_keeps d command noted r);
        runs_on = (refl, refl);
        same = refl;
      })

  drained : (z : Bool) → eqb d.pending 0 ≡ z → Drained (drain_if z d (counted_of d command) (cleared_of d.pending))
  unfolding counted_of replied no_writes
  drained true e =
      passes
      (record {
        sides = sides_of d;
        state_is = refl;
        rows_are = rows_kept w (Drain command) w.rows.heads w.rows.frames w.rows.setups;
        silent = refl;
        drains = refl;
        keeps = λ r. r;
        uncounted = inr (eqb-true d.pending 0 e);
        runs_on = (refl, refl);
        same = refl;
      })
  drained false e = uncounted (eqb d.noted 0) refl

  pub drain_effect : Effect w (Drain command) (core w (Drain command))
  unfolding drain_of drain_decided replied no_writes
  drain_effect =
      through Effect w (Drain command) (refused_still w (Drain command) InvalidParameter refl refl)
      (settled_by (first ((not (in_ranges d), InvalidParameter) ∷ [])) _ _ Drained
      (λ r e. refused_still w (Drain command) r (rw (undone r)) refl)
      (λ e. drained (eqb d.pending 0) refl))

-- ---- rearm, enable, disable: only what is masked and the flag

module _ (w : World) where
  abbrev t : Ehci
  t = w.state

  abbrev flagged : ℕ → ℕ → Sides
  flagged enabled masked = sides_with t enabled t.pending masked

  -- a flag is set, and USBINTR written
  pub enable_effect : Effect w Enable (core w Enable)
  unfolding enable_of settled_reply replied with_interrupt and_then no_writes
  enable_effect =
      through Effect w Enable (refused_still w Enable InvalidParameter refl refl)
      (settles Effect w Enable (not (in_ranges t)) (record { answer = Ok tt; state = with_interrupt t 1 t.pending t.masked; writes = and_then no_writes 8 0x27 })
      (refused_still w Enable InvalidParameter refl refl)
      (still_of w Enable _ _ _ (flagged 1 t.masked) refl refl refl
      (λ r. interrupt_keeps t 1 t.pending t.masked (omega arith) r.pending_only r.masked_only r) refl (idles_on t _ refl refl) refl))

  pub disable_effect : Effect w Disable (core w Disable)
  unfolding disable_of settled_reply replied with_interrupt and_then no_writes
  disable_effect =
      through Effect w Disable (refused_still w Disable InvalidParameter refl refl)
      (settles Effect w Disable (not (in_ranges t)) (record { answer = Ok tt; state = with_interrupt t 0 t.pending t.masked; writes = and_then no_writes 8 0 })
      (refused_still w Disable InvalidParameter refl refl)
      (still_of w Disable _ _ _ (flagged 0 t.masked) refl refl refl
      (λ r. interrupt_keeps t 0 t.pending t.masked (omega arith) r.pending_only r.masked_only r) refl (idles_on t _ refl refl) refl))

  pub rearm_effect : Effect w Rearm (core w Rearm)
  unfolding rearm_of settled_reply replied with_interrupt and_then no_writes
  rearm_effect =
      through Effect w Rearm (refused_still w Rearm InvalidParameter refl refl)
      (settles Effect w Rearm (not (in_ranges t)) _ (refused_still w Rearm InvalidParameter refl refl) (by (eqb t.masked 0)))
    where
      by : (z : Bool) → Effect w Rearm (carried w (settled_reply (rearm_if z t)))
      by true = still_of w Rearm _ _ _ (sides_of t) refl refl refl (λ r. r) refl (idles_on t _ refl refl) refl
      by false =
          still_of w Rearm _ _ _ (flagged t.enabled 0) refl refl refl
          (λ r. interrupt_keeps t t.enabled t.pending 0 r.enabled_flag r.pending_only (only_none 0x27 (lit< tt)) r) refl (idles_on t _ refl refl) refl
