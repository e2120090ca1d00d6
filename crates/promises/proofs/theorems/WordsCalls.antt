-- One call over words does what it does over the plain state: the door lets in and refuses the same.
use Rattle.std.specs.Prelude.{Err, Ok, Result}
use Prim.Native.Nat.{ℕ, zero, suc, ◌^◌, ◌<◌}
use mathlib.Core.Bool.{Bool, true, false, not}
use mathlib.Core.List.{List, [], ◌∷◌}
use mathlib.Core.Path.{◌≡◌, refl, sym, ap, ◌∙◌}
use native.Mathlib.Omega.{arith}
use lib.Dec.{lit<}
use lib.ListN.{get_or, length}
use Rattle.bitset.specs.Words.{Fitting}
use Rattle.common.specs.Answers.{first, or_else}
use Rattle.common.specs.declared.answer.Refusal.TheVariants.{InvalidParameter, SlotLimitReached, InvalidEndpoint, QueueFull, NotSupported, NoMemory, Timeout, NotReady}
use Rattle.common.proofs.TestLaws.{both_first, both_makes, both_second, both_tells, false_true}
use Rattle.state.specs.Ranges.{in_ranges}
use Rattle.state.specs.Plain.{Ehci}
use Rattle.words.specs.Good.{Good, Tidy}
use Rattle.words.specs.View.{state_of, view}
use Rattle.word_ranges.specs.Judge.{words_good}
use Rattle.word_ranges.proofs.JudgeLaws.{accepted, judged}
use Rattle.opening.specs.Opening.{rows_are_fit}
use Rattle.controller.specs.Lent.{accepts_of, lengths}
use Rattle.ehci.specs.declared.call.Call.{Call}
use Rattle.ehci.specs.declared.reply.Answered.TheVariants.{Done, Pending, Cancelled, Failed}
use Rattle.ehci.specs.Refusals.{refused_world}
use Rattle.ehci.specs.Replies.{answered_number, refused_reply, replied}
use Rattle.ehci.specs.WordsDoor.{accepts_words, apply_words}
use Rattle.ehci.proofs.Refusals.{refusals}
use Rattle.promises.specs.Checks.{further_checks, refusal_in}
use Rattle.promises.specs.Opened.{verdict_number}
use Rattle.promises.specs.Runs.{Machine, Moment, Rows, World, WorldIn, core, moment, viewed, world_of}
use Rattle.promises.specs.WordsRuns.{Does, Faithful, Typed, in_words, let_in}
use Rattle.promises.proofs.theorems.Order.{in_order}
use Rattle.ehci.specs.declared.reply.Answered.{Answered}
use Rattle.common.specs.declared.answer.Refusal.{Refusal}

-- ---- the plain form's door

-- it refuses first
is_invalid : (x : (Result Answered Refusal)) → refusal_in (answered_number x) ≡ 1 → x ≡ Err InvalidParameter
is_invalid (Ok (Done given)) e = absurd (omega (arith, e))
is_invalid (Ok Pending) e = absurd (omega (arith, e))
is_invalid (Ok Cancelled) e = absurd (omega (arith, e))
is_invalid (Ok (Failed token)) e = absurd (omega (arith, e))
is_invalid (Err InvalidParameter) e = refl
is_invalid (Err SlotLimitReached) e = absurd (omega (arith, e))
is_invalid (Err InvalidEndpoint) e = absurd (omega (arith, e))
is_invalid (Err QueueFull) e = absurd (omega (arith, e))
is_invalid (Err NotSupported) e = absurd (omega (arith, e))
is_invalid (Err NoMemory) e = absurd (omega (arith, e))
is_invalid (Err Timeout) e = absurd (omega (arith, e))
is_invalid (Err NotReady) e = absurd (omega (arith, e))

unfit_refused : (w : World) (c : Call) → (moment core w).fits ≡ false
    → core w c ≡ refused_world w.state w.rows.pool w.rows.heads w.rows.frames w.rows.setups InvalidParameter
unfit_refused w c e =
    refusals w.state w.rows.pool w.rows.heads w.rows.frames w.rows.setups c InvalidParameter
    (is_invalid (core w c).reply.answer
    (in_order w tt c ∙ ap (λ (b : Bool). verdict_number (or_else (not b) InvalidParameter (first (further_checks (moment core w) c)))) e))

-- ---- and that over words

fit_at : (ws : List ℕ) → Fitting ws → (i : ℕ) → get_or ws i 0 < 2 ^ 64
fit_at [] f i = lit< tt
fit_at (w ∷ ws) f zero = f.0
fit_at (w ∷ ws) f (suc i) = fit_at ws f.1 i

module _ (w : WorldIn in_words) where
  abbrev rows_here : Bool
  rows_here =
      rows_are_fit w.state.core.settings (length w.rows.pool) (length w.rows.heads) (length w.rows.frames) (length w.rows.setups)

  abbrev pub admits : Bool
  admits =
      accepts_of (view w.state.core w.state.slots)
      (lengths (length w.rows.pool) (length w.rows.heads) (length w.rows.frames) (length w.rows.setups))

  -- words that are let in are good
  pub let_in_good : let_in w ≡ true → Good w.state.core.settings w.state.core.rest w.state.slots
  unfolding accepts_words
  let_in_good e =
      judged w.state.core.settings w.state.core.rest w.state.slots (both_second rows_here (words_good w.state.core.settings w.state.core.rest w.state.slots) e)

  -- and so is the state that they stand for
  in_admits : let_in w ≡ true → admits ≡ true
  unfolding accepts_words accepts_of state_of
  in_admits e =
      both_makes rows_here (in_ranges (view w.state.core w.state.slots))
      (both_first rows_here (words_good w.state.core.settings w.state.core.rest w.state.slots) e) (let_in_good e).ranges

  admitted : admits ≡ true → (rows_here ≡ true) × (in_ranges (view w.state.core w.state.slots) ≡ true)
  unfolding accepts_of state_of
  admitted e = both_tells rows_here (in_ranges (view w.state.core w.state.slots)) e

  module _ (faithful : Faithful w) where
    pub admits_good : admits ≡ true → Good w.state.core.settings w.state.core.rest w.state.slots
    admits_good e = let here = admitted e in record { tidy = faithful.tidy here.1; ranges = here.1 }

    pub admits_in : admits ≡ true → let_in w ≡ true
    unfolding accepts_words
    admits_in e =
        both_makes rows_here (words_good w.state.core.settings w.state.core.rest w.state.slots) (admitted e).0
        (accepted w.state.core.settings w.state.core.rest w.state.slots faithful.typed.free_fits (fit_at w.state.slots faithful.typed.row_fits) (admits_good e))

    -- both doors let in the same
    fits_same : let_in w ≡ admits
    fits_same = by admits refl (let_in w) refl
      where
        by : (a : Bool) → admits ≡ a → (b : Bool) → let_in w ≡ b → let_in w ≡ admits
        by true q b e = admits_in q ∙ sym q
        by false q true e = absurd (false_true (sym q ∙ in_admits e))
        by false q false e = e ∙ sym q

    pub call_same : (c : Call)
        → apply_words w.state.core w.state.slots w.rows.pool w.rows.heads w.rows.frames w.rows.setups c ≡ core (viewed w) c
    unfolding apply_words refused_reply replied
    call_same c = by (let_in w) refl
      where
        by : (b : Bool) → let_in w ≡ b
            → apply_words w.state.core w.state.slots w.rows.pool w.rows.heads w.rows.frames w.rows.setups c ≡ core (viewed w) c
        by true e = rw e
        by false e = rw e (sym (unfit_refused (viewed w) c (sym fits_same ∙ e)))

-- ---- of a machine that does it

module _ (m : Machine in_words) (does : Does m) (w : WorldIn in_words) (faithful : Faithful w) where
  -- the words show what the state that they stand for does
  pub same_moment : moment m w ≡ moment core (viewed w)
  same_moment i =
      record {
        view = view w.state.core w.state.slots;
        rows = w.rows;
        fits = fits_same w faithful i;
        does = λ c. (does.replies w c faithful.typed ∙ call_same w faithful c) i;
      }

  pub next_faithful : (c : Call) → Faithful (world_of m w (c ∷ []))
  unfolding world_of
  next_faithful c = record { typed = does.typed w c faithful.typed; tidy = by (let_in w) refl }
    where
      by : (b : Bool) → let_in w ≡ b → in_ranges (state_of w.state.core.settings (m w c).reply.rest (m w c).slots) ≡ true
          → Tidy w.state.core.settings (m w c).reply.rest (m w c).slots
      by true e r = (does.leaves w c faithful.typed).tidy e
      by false e r =
          let rest = (does.leaves w c faithful.typed).rest_stays e in
          let row = (does.leaves w c faithful.typed).row_stays e in
          rw (rest, row) (faithful.tidy (rw (rest, row) at r))

-- ---- and of words that are refused, whatever they stand for

-- a moment in which nothing is let in
abbrev pub refusing : Ehci → Rows → Moment
refusing state rows =
    record {
      view = state;
      rows = rows;
      fits = false;
      does = λ c. refused_world state rows.pool rows.heads rows.frames rows.setups InvalidParameter;
    }

module _ (m : Machine in_words) (does : Does m) (w : WorldIn in_words) (typed : Typed w.state.core.rest w.state.slots) where
  pub let_in_faithful : let_in w ≡ true → Faithful w
  let_in_faithful e = record { typed = typed; tidy = λ r. (let_in_good w e).tidy }

  pub refused_call : let_in w ≡ false → (c : Call)
      → (moment m w).does c ≡ (refusing (view w.state.core w.state.slots) w.rows).does c
  unfolding apply_words refused_reply replied
  refused_call e c = does.replies w c typed ∙ rw e

  pub refused_moment : let_in w ≡ false → moment m w ≡ refusing (view w.state.core w.state.slots) w.rows
  refused_moment e i =
      record {
        view = view w.state.core w.state.slots;
        rows = w.rows;
        fits = e i;
        does = λ c. refused_call e c i;
      }
