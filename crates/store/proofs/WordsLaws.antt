-- A call on a tended store does what it does on the plain state that the words stand for: neither refuses what the other lets in.
use Rattle.std.specs.Prelude.{◌≡◌, ℕ, ◌^◌, ◌<◌, Bool, true, false, List, length, get_or}
use mathlib.Core.Path.{refl, sym, ◌∙◌}
use Rattle.bitset.specs.Places.{Words}
use Rattle.common.proofs.TestLaws.{both_makes, false_true}
use Rattle.descriptor.specs.declared.qtd.QueueTransferDescriptor.{QueueTransferDescriptor as Record}
use Rattle.state.specs.Ranges.{in_ranges}
use Rattle.words.specs.declared.cores.Core.{Core}
use Rattle.words.specs.declared.cores.Rest.{Rest}
use Rattle.words.specs.Good.{Tidy}
use Rattle.words.specs.View.{state_of, view}
use Rattle.word_ranges.specs.Judge.{words_good}
use Rattle.word_ranges.proofs.JudgeLaws.{accepted}
use Rattle.opening.specs.Opening.{rows_are_fit}
use Rattle.ehci.specs.declared.call.Call.{Call}
use Rattle.ehci.specs.Door.{apply_of}
use Rattle.ehci.specs.Replies.{refused_reply, replied}
use Rattle.ehci.specs.WordsDoor.{WordsAfter, accepts_words, apply_words}
use Rattle.store.proofs.Refused.{outside_refused, unfit_refused}

module _ (core : Core) (ws : List ℕ) (tended : in_ranges (view core ws) ≡ true → Tidy core.settings core.rest ws) where
  module _ (free : Words core.rest.free) (row : (i : ℕ) → get_or ws i 0 < 2 ^ 64) (pool : List Record) (heads frames setups : List ℕ) where
    abbrev fits : Bool
    fits = rows_are_fit core.settings (length pool) (length heads) (length frames) (length setups)

    abbrev lets : Bool
    lets = accepts_words core ws (length pool) (length heads) (length frames) (length setups)

    lets_in : fits ≡ true → in_ranges (view core ws) ≡ true → lets ≡ true
    unfolding accepts_words
    lets_in f e =
        both_makes fits (words_good core.settings core.rest ws) f
        (accepted core.settings core.rest ws free row (record { tidy = tended e; ranges = e }))

    pub call_same : (c : Call) → apply_words core ws pool heads frames setups c ≡ apply_of (view core ws) pool heads frames setups c
    unfolding apply_words refused_reply replied state_of
    call_same c = by lets refl fits refl (in_ranges (view core ws)) refl
      where
        by : (b : Bool) → lets ≡ b → (f : Bool) → fits ≡ f → (g : Bool) → in_ranges (view core ws) ≡ g
            → apply_words core ws pool heads frames setups c ≡ apply_of (view core ws) pool heads frames setups c
        by true e f ef g eg = rw e
        by false e false ef g eg = rw e (sym (unfit_refused (view core ws) pool heads frames setups c ef))
        by false e true ef false eg = rw e (sym (outside_refused (view core ws) pool heads frames setups c ef eg))
        by false e true ef true eg = absurd (false_true (sym e ∙ lets_in ef eg))

  -- ---- the words that a call leaves

  module _ (good : Bool) (rest : Rest) (ws' : List ℕ) (after : WordsAfter good core ws rest ws') where
    pub tidy_after : Tidy core.settings core.rest ws → Tidy core.settings rest ws'
    tidy_after t = by good refl
      where
        by : (b : Bool) → good ≡ b → Tidy core.settings rest ws'
        by true e = after.tidy e
        by false e = rw (after.rest_stays e, after.row_stays e) t

    pub tended_after : in_ranges (state_of core.settings rest ws') ≡ true → Tidy core.settings rest ws'
    tended_after r = by good refl
      where
        by : (b : Bool) → good ≡ b → Tidy core.settings rest ws'
        by true e = after.tidy e
        by false e =
            rw (after.rest_stays e, after.row_stays e) (tended (rw (after.rest_stays e, after.row_stays e) at r))
