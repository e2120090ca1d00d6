-- What opening in words gives: an accepted one's core and row of slots are good, a refused one's core is outside its ranges.
use Rattle.std.specs.Prelude.{◌≡◌, ℕ, Bool, true, false, List, length, Err, Ok}
use mathlib.Core.Path.{refl, sym, ap, subst, ◌∙◌}
use Rattle.common.specs.declared.answer.Refusal.TheVariants.{InvalidParameter}
use Rattle.common.proofs.CheckLaws.{answers_apart}
use Rattle.descriptor.specs.declared.qtd.QueueTransferDescriptor.{QueueTransferDescriptor as Record}
use Rattle.settings.specs.declared.settings.Settings.{Settings}
use Rattle.settings.specs.Settings.{numbers_good, settings_good}
use Rattle.state.specs.Ranges.{in_ranges}
use Rattle.words.specs.declared.cores.Core.{Core}
use Rattle.words.specs.Good.{Good}
use Rattle.words.specs.View.{state_of, view}
use Rattle.opening.specs.declared.open.Opening.{Opening}
use Rattle.opening.specs.Opening.{opened, refused_opening}
use Rattle.opening.specs.Words.{FreshWords, OpenedRows, OpensWords, blank_core, open_words, opened_rows, rows_of, slots_fit}
use Rattle.opening.proofs.OpenLaws.{fresh_in_ranges}
use Rattle.opening.proofs.OpenPool.{refuses_settings}

-- a refused opening's core is accepted by no call, whatever the row of slots
pub blank_out : (slots : List ℕ) → in_ranges (view blank_core slots) ≡ false
unfolding blank_core state_of in_ranges settings_good numbers_good
blank_out slots = refl

-- the fresh state's words are good
pub fresh_good : (s : Settings) (core : Core) (slots : List ℕ) → settings_good s ≡ true → FreshWords s core slots
    → Good core.settings core.rest slots
fresh_good s core slots g f =
    subst (λ (t : Settings). Good t core.rest slots) (sym f.same_settings)
    (record { tidy = f.tidy; ranges = ap in_ranges f.fresh ∙ fresh_in_ranges s g })

module _ (s : Settings) (rs : List Record) (ss hs fs us : List ℕ) where
  denied_answer : (rows_of (opened (refused_opening InvalidParameter) rs hs fs us)).answer ≡ Err InvalidParameter
  unfolding refused_opening
  denied_answer = refl

  -- only good settings are accepted
  pub done_good : (open_words s rs ss hs fs us).answer ≡ (Ok tt) → settings_good s ≡ true
  unfolding open_words
  done_good e = go (settings_good s) refl (slots_fit s (length ss)) refl
    where
      never : open_words s rs ss hs fs us ≡ rows_of (opened (refused_opening InvalidParameter) rs hs fs us) → ⊥
      never m = answers_apart InvalidParameter (sym denied_answer ∙ sym (ap (λ (o : OpenedRows). o.answer) m) ∙ e)

      go : (b : Bool) → settings_good s ≡ b → (c : Bool) → slots_fit s (length ss) ≡ c → settings_good s ≡ true
      go true eb c ec = eb
      go false eb false ec = absurd (never (rw ec))
      go false eb true ec = absurd (never (rw ec (ap rows_of (refuses_settings s rs hs fs us eb))))

  -- the core and the row of slots of an accepted opening are good
  pub opened_good : (o : Opening) (wr : List Record) (ws wh wf wu : List ℕ) → opened_rows o wr wh wf wu ≡ open_words s rs ss hs fs us
      → OpensWords s o ss ws → o.answer ≡ (Ok tt) → Good o.core.settings o.core.rest ws
  opened_good o wr ws wh wf wu e w d =
      fresh_good s o.core ws (done_good (sym (ap (λ (x : OpenedRows). x.answer) e) ∙ d)) (w.accepted d)
