-- Opening: an accepted one gives a state in its ranges with every descriptor free, and rows of which each word is stated; a
-- refused one leaves every row as it was and gives a state that is outside its ranges.
use Rattle.std.specs.Prelude.{◌≡◌, ℕ, ◌+◌, ◌-◌, ◌*◌, ◌%◌, ◌^◌, ◌<◌, Bool, true, false, ◌&&◌, eqb, List, ◌∷◌, length, replicate, Err, Ok}
use mathlib.Core.Path.{refl, ◌∙◌}
use native.Mathlib.Omega.{arith}
use borrow.Author.Tests.{eq-eqb, eqb-true}
use lib.ListN.{get_or-replicate, replicate-append-replicate}
use Rattle.register.specs.Bits.{without_bits}
use Rattle.descriptor.specs.Descriptors.{terminated}
use Rattle.descriptor.specs.Heads.{ring_head}
use Rattle.common.specs.declared.answer.Refusal.TheVariants.{InvalidParameter}
use Rattle.settings.specs.declared.settings.Settings.{Settings}
use Rattle.pipe.specs.Endpoints.{bare_slot}
use Rattle.opening.specs.Hub.{opened_hub}
use Rattle.opening.specs.Opening.{accepted_opening, fresh_state, no_settings, Decided, decided, opened_heads, decide_open_of, refused_opening, rows_are_fit}
use Rattle.slot.specs.Ranges.{slot_good}
use Rattle.state.specs.Ranges.{in_ranges}
use Rattle.settings.specs.Settings.{frames_length, heads_length, numbers_good, pool_length, settings_good, setups_length}
use Rattle.state.specs.Slots.{slot_at}
use Rattle.state.proofs.Arrays.{zeros_at}
use Rattle.state.proofs.RangesLaws.{ranges_make}
use Rattle.settings.proofs.SettingsLaws.{Good, good_tells}
use Rattle.common.proofs.TestLaws.{both_tells}
use Rattle.slot.proofs.SlotLaws.{Phase, slot_makes}

-- ---- the state

module _ (s : Settings) where
  -- every slot is closed
  pub fresh_slot : (k : ℕ) → k < 32 → slot_at (fresh_state s) k ≡ bare_slot 0 0 0 0 1
  unfolding slot_at fresh_state
  fresh_slot k h = rw (zeros_at 32 k, get_or-replicate {A = ℕ} 32 k 1 0 h)

  closed_right : (E limit k u : ℕ) → slot_good E limit k u (bare_slot 0 0 0 0 1) ≡ true
  closed_right E limit k u =
      slot_makes E limit k u (bare_slot 0 0 0 0 1)
      (record {
        id_least = omega arith;
        closed_from_lem = λ h. refl;
        size_none = λ h. refl;
        size_open = λ n. absurd (n refl);
        toggle_none = λ h. refl;
        toggle_flag = omega arith;
        by_phase =
            Phase.closed refl refl refl
            (record { request_none = refl; direction_none = refl; length_none = refl; cancel_none = refl; boundary_none = refl });
      })

  pub fresh_in_ranges : settings_good s ≡ true → in_ranges (fresh_state s) ≡ true
  unfolding fresh_state without_bits
  fresh_in_ranges e =
      let g = good_tells s e in
      ranges_make (fresh_state s)
      (record {
        good = g;
        running_flag = omega arith;
        step_most = omega arith;
        waited_below = g.wait_least;
        address_least = omega arith;
        address_most = omega arith;
        enabled_flag = omega arith;
        pending_only = refl;
        masked_only = refl;
        doorbell_flag = omega arith;
        noted_most = omega arith;
        unanswered_least = omega arith;
        unanswered_most = omega arith;
        owned = λ i h. omega (arith, zeros_at 256 i);
        unowned = λ i h. zeros_at 256 i;
        slots = λ k h. rw (fresh_slot k h) (closed_right s.endpoints s.limit k 0);
      })

-- what a refused opening gives is accepted by no call
pub refused_out : in_ranges (fresh_state no_settings) ≡ false
unfolding fresh_state in_ranges settings_good numbers_good
refused_out = refl

-- ---- the rows

-- lengths that fit, as document 01 fixes them
pub record Fitting (s : Settings) (pool heads frames setups : ℕ) : Type 0 where
  pub pool_fits_lem : pool ≡ pool_length s
  pub heads_fit : heads ≡ 17 * (s.endpoints + 1)
  pub frames_fit : frames ≡ 1024
  pub setups_fit : setups ≡ 8 * s.endpoints

module _ (s : Settings) (pool heads frames setups : ℕ) where
  pub rows_tell : rows_are_fit s pool heads frames setups ≡ true → Fitting s pool heads frames setups
  unfolding rows_are_fit
  rows_tell e =
      let p = both_tells (eqb pool (pool_length s)) _ e in
      let h = both_tells (eqb heads (heads_length s)) _ p.1 in
      let f = both_tells (eqb frames frames_length) _ h.1 in
      let u = both_tells (eqb setups (setups_length s)) true f.1 in
      record {
        pool_fits_lem = eqb-true pool (pool_length s) p.0;
        heads_fit = eqb-true heads (heads_length s) h.0;
        frames_fit = eqb-true frames frames_length f.0;
        setups_fit = eqb-true setups (setups_length s) u.0;
      }

  pub rows_make : Fitting s pool heads frames setups → rows_are_fit s pool heads frames setups ≡ true
  unfolding rows_are_fit
  rows_make f =
      rw (
        eq-eqb pool (pool_length s) f.pool_fits_lem,
        eq-eqb heads (heads_length s) f.heads_fit,
        eq-eqb frames frames_length f.frames_fit,
        eq-eqb setups (setups_length s) f.setups_fit,
      )

-- the words of the heads: the ring head's link to itself, its characteristics and capabilities, its overlay terminated; then
-- zeros
pub heads_words : (s : Settings) → Good s
    → opened_heads s.heads (heads_length s) ≡ (s.heads + 2) ∷ 0x00408000 ∷ 2 ^ 30 ∷ 0 ∷ 1 ∷ 1 ∷ replicate (heads_length s - 6) 0
unfolding opened_heads ring_head terminated
heads_words s g =
    let link : s.heads - s.heads % 32 + 2 ≡ s.heads + 2 = omega (arith, g.heads_aligned) in
    let rest : 11 + (heads_length s - 17) ≡ heads_length s - 6 = omega (arith, g.endpoints_least) in
    rw (link, ← rest, ← replicate-append-replicate {A = ℕ} 11 (heads_length s - 17) 0)

-- ---- the call

pub record Accepted (s : Settings) (heads frames setups : List ℕ) (o : Decided) : Type 0 where
  pub answer_done : o.opening.answer ≡ (Ok tt)
  pub state_fresh : o.opening.state ≡ fresh_state s
  pub hub_opened : o.opening.hub ≡ opened_hub s.ports
  pub heads_are : o.heads ≡ (s.heads + 2) ∷ 0x00408000 ∷ 2 ^ 30 ∷ 0 ∷ 1 ∷ 1 ∷ replicate (length heads - 6) 0
  pub frames_are : o.frames ≡ replicate (length frames) 1
  pub setups_are : o.setups ≡ replicate (length setups) 0

pub record Denied (heads frames setups : List ℕ) (o : Decided) : Type 0 where
  pub answer_refused : o.opening.answer ≡ Err InvalidParameter
  pub state_none : o.opening.state ≡ fresh_state no_settings
  pub hub_none : o.opening.hub ≡ opened_hub 0
  pub heads_kept : o.heads ≡ heads
  pub frames_kept : o.frames ≡ frames
  pub setups_kept : o.setups ≡ setups

module _ (s : Settings) (pool : ℕ) (heads frames setups : List ℕ) where
  pub open_accepts : settings_good s ≡ true → rows_are_fit s pool (length heads) (length frames) (length setups) ≡ true
      → Accepted s heads frames setups (decide_open_of s pool heads frames setups)
  unfolding decide_open_of accepted_opening
  open_accepts e f =
      let l = rows_tell s pool (length heads) (length frames) (length setups) f in
      rw (e, f)
      (record {
        answer_done = refl;
        state_fresh = refl;
        hub_opened = refl;
        heads_are = heads_words s (good_tells s e) ∙ rw l.heads_fit;
        frames_are = rw l.frames_fit;
        setups_are = rw l.setups_fit;
      })

  -- any fault of the settings or of a row's length
  pub open_refuses : (settings_good s && rows_are_fit s pool (length heads) (length frames) (length setups)) ≡ false
      → Denied heads frames setups (decide_open_of s pool heads frames setups)
  unfolding decide_open_of refused_opening
  open_refuses e = by (settings_good s) refl
    where
      denied : Denied heads frames setups (decided (refused_opening InvalidParameter) heads frames setups)
      denied =
          record {
            answer_refused = refl;
            state_none = refl;
            hub_none = refl;
            heads_kept = refl;
            frames_kept = refl;
            setups_kept = refl;
          }

      by : (t : Bool) → settings_good s ≡ t → Denied heads frames setups (decide_open_of s pool heads frames setups)
      by true q = let f : rows_are_fit s pool (length heads) (length frames) (length setups) ≡ false = rw q at e in rw (q, f) denied
      by false q = rw q denied
