-- What `look` finds: whether the words are accepted, and what is asked of the pool.
use Rattle.std.specs.Prelude.{◌≡◌, ℕ, Bool, true, false, not, ◌&&◌, List}
use mathlib.Core.Path.{refl, refl, sym, ap, subst, ◌∙◌}
use Rattle.common.proofs.TestLaws.{false_true}
use Rattle.pool.specs.Chains.{no_ask}
use Rattle.pool.specs.Words.{AskWordsGood, no_ask_words}
use Rattle.pool.specs.declared.asked.AskWords.{AskWords}
use Rattle.pool.proofs.WordLaws.{no_ask_words_good}
use Rattle.settings.specs.Settings.{pool_length}
use Rattle.opening.specs.Opening.{rows_are_fit}
use Rattle.opening.proofs.OpenLaws.{rows_tell}
use Rattle.words.specs.declared.cores.Core.{Core}
use Rattle.words.specs.Good.{Good}
use Rattle.state.specs.Plain.{Ehci}
use Rattle.words.specs.View.{view}
use Rattle.word_ranges.specs.Judge.{words_good}
use Rattle.controller.specs.declared.lent.Readings.{Readings}
use Rattle.collection.specs.Asks.{ask_of}
use Rattle.collection.specs.Words.{ask_view}
use Rattle.ehci.specs.declared.call.Call.{Call}
use Rattle.ehci.specs.declared.call.Call.TheVariants.{AllocateAddress, Acknowledge, BringUpStep, Cancel, ClearHalt, Close, Collect, Disable, Drain, Enable, OpenEndpoint, Rearm, SetAddress, SetPacketSize, StartBringUp, Submit, Writeback}
use Rattle.ehci.specs.Decides.{asks_of}
use Rattle.ehci.specs.WordsDecides.{AsksGood, LooksGood}
use Rattle.ehci.specs.WordsDoor.{accepts_words}
use Rattle.ehci.proofs.DoorLaws.{accepts_judged}
use Rattle.ehci.proofs.WordsCalls.{not-false, not-true}
use Rattle.ehci.proofs.WordsChains.{no_ask_view}

pub accepts_are : (c : Core) (ws : List ℕ) (pool heads frames setups : ℕ) (f g : Bool) → f ≡ rows_are_fit c.settings pool heads frames setups → g ≡ words_good c.settings c.rest ws
    → (f && g) ≡ accepts_words c ws pool heads frames setups
unfolding accepts_words
accepts_are c ws pool heads frames setups f g ef eg = rw (ef, eg)

-- ---- what is asked

-- only a collect asks
asked_none : (s : Ehci) (n : ℕ) (call : Call) → ((k id : ℕ) (readings : Readings) → call ≡ Collect k id readings → ⊥) → asks_of s n call ≡ no_ask
unfolding asks_of
asked_none s n StartBringUp h = refl
asked_none s n (BringUpStep w) h = refl
asked_none s n AllocateAddress h = refl
asked_none s n (OpenEndpoint x) h = refl
asked_none s n (Close k) h = refl
asked_none s n (SetAddress k a) h = refl
asked_none s n (SetPacketSize k size) h = refl
asked_none s n (Submit k t readings) h = refl
asked_none s n (Writeback place token) h = refl
asked_none s n (Cancel k id readings) h = refl
asked_none s n (Collect k id readings) h = absurd (h k id readings refl)
asked_none s n (Acknowledge x) h = refl
asked_none s n (Drain w) h = refl
asked_none s n Rearm h = refl
asked_none s n Enable h = refl
asked_none s n Disable h = refl
asked_none s n (ClearHalt k) h = refl

module _ (c : Core) (ws : List ℕ) (good : Bool) (call : Call) (a : AskWords) where
  pub asks_refused : not good ≡ true → a ≡ no_ask_words → AsksGood c ws good call a
  asks_refused h e =
      record {
        ask_is = λ yes. absurd (false_true (sym (not-true good h) ∙ yes));
        ask_good = subst (λ (x : AskWords). AskWordsGood (pool_length c.settings) x) (sym e) (no_ask_words_good (pool_length c.settings));
        none_asked = λ no. e;
      }

  pub asks_none : ((k id : ℕ) (readings : Readings) → call ≡ Collect k id readings → ⊥) → a ≡ no_ask_words → AsksGood c ws good call a
  asks_none other e =
      record {
        ask_is = λ yes. ap ask_view e ∙ no_ask_view ∙ sym (asked_none (view c ws) (pool_length c.settings) call other);
        ask_good = subst (λ (x : AskWords). AskWordsGood (pool_length c.settings) x) (sym e) (no_ask_words_good (pool_length c.settings));
        none_asked = λ no. e;
      }

  pub asks_slot : (k id : ℕ) (readings : Readings) → call ≡ Collect k id readings → not good ≡ false → ask_view a ≡ ask_of (view c ws) (pool_length c.settings) k
      → AskWordsGood (pool_length c.settings) a → AsksGood c ws good call a
  unfolding asks_of
  asks_slot k id readings is h e g =
      record {
        ask_is = λ yes. e ∙ ap (asks_of (view c ws) (pool_length c.settings)) (sym is);
        ask_good = g;
        none_asked = λ no. absurd (false_true (sym no ∙ not-false good h));
      }

-- ---- both

module _ (c : Core) (ws : List ℕ) (pool heads frames setups : ℕ) (g : Bool) (e : g ≡ accepts_words c ws pool heads frames setups) where
  pub may_ask : g ≡ true → Good c.settings c.rest ws
  may_ask h = (accepts_judged c ws pool heads frames setups (sym e ∙ h)).words

  same_pool : g ≡ true → pool_length c.settings ≡ pool
  same_pool h = sym (rows_tell c.settings pool heads frames setups (accepts_judged c ws pool heads frames setups (sym e ∙ h)).rows).pool_fits_lem

  pub looks : (call : Call) (a : AskWords) → AsksGood c ws g call a → LooksGood c ws pool heads frames setups call (record { good = g; ask = a })
  looks call a asked =
      record {
        good_is = e;
        ask_is = λ yes. asked.ask_is yes ∙ ap (λ (n : ℕ). asks_of (view c ws) n call) (same_pool yes);
        ask_good = by g refl;
      }
    where
      by : (b : Bool) → g ≡ b → AskWordsGood pool a
      by true h = subst (λ (n : ℕ). AskWordsGood n a) (same_pool h) asked.ask_good
      by false h = subst (λ (x : AskWords). AskWordsGood pool x) (sym (asked.none_asked h)) (no_ask_words_good pool)
