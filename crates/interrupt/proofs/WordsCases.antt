-- The returns of the interrupt calls over words: each is the case of the calls' definitions at the state that the words stand for.
use Rattle.std.specs.Prelude.{◌≡◌, ℕ, ◌≤◌, Bool, true, false, not, ◌&&◌, eqb, List, Ok}
use mathlib.Core.Path.{refl, sym, ap, ◌∙◌}
use borrow.Author.Tests.{eq-eqb, ne_eqb}
use Rattle.register.specs.Bits.{with_bits, only_bits, any_of}
use Rattle.register.specs.Writes.{no_writes, and_then}
use Rattle.register.specs.declared.writes.Writes.{Writes}
use Rattle.token.specs.Tokens.{only_if}
use Rattle.settings.specs.declared.settings.Settings.{Settings}
use Rattle.state.specs.Ranges.{in_ranges}
use Rattle.state.specs.State.{with_bell, with_boundaries, with_interrupt}
use Rattle.state.specs.Plain.{Ehci}
use Rattle.schedule.specs.Bell.{advanced_of, fallen_from}
use Rattle.schedule.specs.declared.bell.Rung.{Rung}
use Rattle.words.specs.declared.cores.Core.{Core}
use Rattle.words.specs.declared.cores.Rest.{Rest}
use Rattle.words.specs.Good.{Good, Tidy}
use Rattle.words.specs.Record.{fall_to}
use Rattle.words.specs.Rest.{rest_with_bell, rest_with_interrupt}
use Rattle.words.specs.View.{state_of, view}
use Rattle.words.proofs.FallenLaws.{view_fallen}
use Rattle.words.proofs.TidyLaws.{tidy_fallen, tidy_rest}
use Rattle.interrupt.specs.Plain.{Acknowledgement}
use Rattle.interrupt.specs.declared.answers.Event.TheVariants.{Nothing}
use Rattle.interrupt.specs.Plain.{Drainage}
use Rattle.interrupt.specs.Plain.{Settled}
use Rattle.interrupt.specs.Plain.{Counted}
use Rattle.interrupt.specs.declared.drain.Cleared.{Cleared}
use Rattle.interrupt.specs.declared.drain.Counted.{Counted as CountedWords}
use Rattle.interrupt.specs.Interrupts.{acknowledge_of, acknowledge_writes, cleared_of, counted_of, disable_of, drain_of, enable_of, noted_after, note_if, rearm_of}
use Rattle.interrupt.specs.Words.{counted_view}
use Rattle.interrupt.proofs.Cases.{ack_no, ack_yes, count_none, count_one, disable_done, drain_nothing, drain_some, enable_done, noted_unanswered, rearm_none, rearm_some}
use Rattle.interrupt.proofs.FallenView.{fallen_view}

-- ---- acknowledge

module _ (doorbell noted p : ℕ) (a : Bool) (ea : a ≡ any_of p 32) where
  pub note_up : a ≡ true → doorbell ≡ 1 → 1 ≡ note_if (any_of p 32 && eqb doorbell 1) noted
  note_up t d = rw (sym ea ∙ t, eq-eqb doorbell 1 d)

  pub note_down : a ≡ true → (doorbell ≡ 1 → ⊥) → noted ≡ note_if (any_of p 32 && eqb doorbell 1) noted
  note_down t d = rw (sym ea ∙ t, ne_eqb doorbell 1 d)

  pub note_none : a ≡ false → noted ≡ note_if (any_of p 32 && eqb doorbell 1) noted
  note_none t = rw (sym ea ∙ t)

module _ (c : Core) (ws : List ℕ) (good : in_ranges (view c ws) ≡ true) (st i : ℕ) (f g : Bool) (w : Writes) where
  pub acknowledged_no : w ≡ no_writes → (p : ℕ) → p ≡ only_bits st 55 → p ≡ 0
      → ◌≡◌ {A = Acknowledgement} (record { answer = Ok false; state = view c ws; writes = w }) (acknowledge_of (view c ws) st i f g)
  acknowledged_no ew p ep z = ack_no (view c ws) st i f g true (sym good) w refl ew p ep z

  pub acknowledged_yes : (p n pend o mask : ℕ) → p ≡ only_bits st 55 → (p ≡ 0 → ⊥)
      → n ≡ note_if (any_of p 32 && eqb c.rest.doorbell 1) c.rest.noted
      → pend ≡ with_bits c.rest.pending p → o ≡ only_bits p 39 → mask ≡ with_bits c.rest.masked o → w ≡ acknowledge_writes p i f g
      → ◌≡◌ {A = Acknowledgement}
      (record {
        answer = Ok true;
        state = state_of c.settings
            (rest_with_bell (rest_with_interrupt c.rest c.rest.enabled pend mask) n c.rest.doorbell c.rest.unanswered) ws;
        writes = w;
      })
      (acknowledge_of (view c ws) st i f g)
  unfolding state_of noted_after with_bell with_interrupt
  acknowledged_yes p n pend o mask ep z en ed eo em ew =
      ack_yes (view c ws) st i f g true (sym good) w refl p n pend o mask ep z en ed eo em ew

-- ---- drain

module _ (c : Core) (ws : List ℕ) (cmd : ℕ) where
  pub counted_none : (w : Writes) → c.rest.noted ≡ 0 → w ≡ no_writes
      → ◌≡◌ {A = Counted} (record { state = view c ws; writes = w }) (counted_of (view c ws) cmd)
  unfolding state_of
  counted_none w z ew = count_none (view c ws) cmd w z ew

  pub bell_answers : Good c.settings c.rest ws → (c.rest.noted ≡ 0 → ⊥) → 1 ≤ c.rest.unanswered
  unfolding state_of
  bell_answers good z = noted_unanswered (view c ws) good.ranges z

  module _ (w : Writes) (r : Rung) (z : c.rest.noted ≡ 0 → ⊥) (ew : w ≡ no_writes) (er : r ≡ advanced_of (record { noted = c.rest.noted; doorbell = c.rest.doorbell; unanswered = c.rest.unanswered }) w cmd) where
    counted_state : (l : List ℕ) → l ≡ fallen_from 0 32 (view c ws).phases (view c ws).kinds (view c ws).boundaries
        → ◌≡◌ {A = Counted}
        (record {
          state = with_boundaries (with_bell (view c ws) r.bell.noted r.bell.doorbell r.bell.unanswered) l;
          writes = r.writes;
        })
        (counted_of (view c ws) cmd)
    unfolding state_of
    counted_state l el = count_one (view c ws) cmd w r l z ew er el

    pub counted_one : (vs : List ℕ) → Good c.settings c.rest ws → vs ≡ fall_to ws c.settings.endpoints
        → ◌≡◌ {A = Counted}
        (record {
          state = state_of c.settings (rest_with_bell c.rest r.bell.noted r.bell.doorbell r.bell.unanswered) vs;
          writes = r.writes;
        })
        (counted_of (view c ws) cmd)
    counted_one vs good e =
        ap (λ (l : List ℕ). counted (state_of c.settings (rest_with_bell c.rest r.bell.noted r.bell.doorbell r.bell.unanswered) l)) e
        ∙ ap counted
        (view_fallen ws c.settings.endpoints good.tidy.has_row_length c.settings c.rest r.bell.noted r.bell.doorbell r.bell.unanswered)
        ∙ counted_state _ (fallen_view c.settings c.rest ws)
      where
        counted : Ehci → Counted
        counted s = record { state = s; writes = r.writes }

pub tidy_counted : (s : Settings) (r q : Rest) (ws vs : List ℕ) → Good s r ws → vs ≡ fall_to ws s.endpoints → q.free ≡ r.free
    → Tidy s q vs
tidy_counted s r q ws vs good e f = rw e (tidy_rest s r q (fall_to ws s.endpoints) f (tidy_fallen s r ws good.tidy))

module _ (c : Core) (ws : List ℕ) (good : Good c.settings c.rest ws) (cmd : ℕ) where
  pub drained_nothing : (w : Writes) → c.rest.pending ≡ 0 → w ≡ no_writes
      → ◌≡◌ {A = Drainage} (record { answer = Ok Nothing; state = view c ws; writes = w }) (drain_of (view c ws) cmd)
  unfolding state_of
  drained_nothing w z ew = drain_nothing (view c ws) cmd true (sym good.ranges) w refl z ew

  pub drained_some : (r : CountedWords) (vs : List ℕ) (k : Cleared) → (c.rest.pending ≡ 0 → ⊥)
      → counted_view c.settings r vs ≡ counted_of (view c ws) cmd → k ≡ cleared_of c.rest.pending
      → ◌≡◌ {A = Drainage}
      (record {
        answer = Ok k.event;
        state = state_of c.settings (rest_with_interrupt r.rest r.rest.enabled k.left r.rest.masked) vs;
        writes = r.writes;
      })
      (drain_of (view c ws) cmd)
  unfolding state_of with_interrupt
  drained_some r vs k z e ek =
      drain_some (view c ws) cmd true (sym good.ranges) (counted_view c.settings r vs) k refl z e ek

-- ---- rearm, enable, disable

module _ (c : Core) (ws : List ℕ) (good : in_ranges (view c ws) ≡ true) (w w' : Writes) (ew : w ≡ no_writes) where
  pub rearmed_none : c.rest.masked ≡ 0 → ◌≡◌ {A = Settled} (record { answer = Ok tt; state = view c ws; writes = w }) (rearm_of (view c ws))
  unfolding state_of
  rearmed_none z = rearm_none (view c ws) true (sym good) w w' ew refl z

  pub rearmed_some : (c.rest.masked ≡ 0 → ⊥) → (v : ℕ) → v ≡ only_if (not (eqb c.rest.enabled 0)) 39 → w' ≡ and_then w 8 v
      → ◌≡◌ {A = Settled}
      (record {
        answer = Ok tt;
        state = state_of c.settings (rest_with_interrupt c.rest c.rest.enabled c.rest.pending 0) ws;
        writes = w';
      })
      (rearm_of (view c ws))
  unfolding state_of with_interrupt
  rearmed_some z v ev e = rearm_some (view c ws) true (sym good) w w' ew refl z v ev e

  pub enabled_done : w' ≡ and_then w 8 39
      → ◌≡◌ {A = Settled}
      (record {
        answer = Ok tt;
        state = state_of c.settings (rest_with_interrupt c.rest 1 c.rest.pending c.rest.masked) ws;
        writes = w';
      })
      (enable_of (view c ws))
  unfolding state_of with_interrupt
  enabled_done e = enable_done (view c ws) true (sym good) w w' ew refl e

  pub disabled_done : w' ≡ and_then w 8 0
      → ◌≡◌ {A = Settled}
      (record {
        answer = Ok tt;
        state = state_of c.settings (rest_with_interrupt c.rest 0 c.rest.pending c.rest.masked) ws;
        writes = w';
      })
      (disable_of (view c ws))
  unfolding state_of with_interrupt
  disabled_done e = disable_done (view c ws) true (sym good) w w' ew refl e
