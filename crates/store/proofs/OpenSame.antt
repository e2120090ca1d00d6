-- Opening in words, where the first words of a whole row of slots are lent, is opening: settings with more slots than the row are refused by both.
use Rattle.std.specs.Prelude.{◌≡◌, ℕ, ◌*◌, min, Bool, true, false, List, length, Ok}
use mathlib.Core.Path.{refl, sym, ap, ◌∙◌}
use native.Mathlib.Omega.{arith}
use borrow.Author.Tests.{eqb-false}
use Rattle.common.specs.declared.answer.Refusal.TheVariants.{InvalidParameter}
use Rattle.common.proofs.CheckLaws.{answers_apart}
use Rattle.descriptor.specs.declared.qtd.QueueTransferDescriptor.{QueueTransferDescriptor as Record}
use Rattle.settings.specs.declared.settings.Settings.{Settings}
use Rattle.settings.specs.Settings.{settings_good}
use Rattle.settings.proofs.SettingsLaws.{good_tells}
use Rattle.opening.specs.Opening.{Opened, accepted_opening, fresh_state, open_of, opened, refused_opening, rows_are_fit}
use Rattle.opening.specs.Words.{open_words, rows_of, slots_fit}
use Rattle.opening.proofs.OpenPool.{accepts, refuses_rows, refuses_settings}

module _ (s : Settings) (rs : List Record) (hs fs us : List ℕ) where
  module _ (ss : List ℕ) (long : length ss ≡ min (6 * s.endpoints) 192) where
    too_many : slots_fit s (length ss) ≡ false → settings_good s ≡ false
    unfolding slots_fit
    too_many e = by (settings_good s) refl
      where
        by : (b : Bool) → settings_good s ≡ b → settings_good s ≡ false
        by false q = q
        by true q =
            absurd (eqb-false (length ss) (6 * s.endpoints) e (omega (arith, long, (good_tells s q).endpoints_most)))

    pub open_same : open_words s rs ss hs fs us ≡ rows_of (open_of s rs hs fs us)
    unfolding open_words
    open_same = by (slots_fit s (length ss)) refl
      where
        by : (b : Bool) → slots_fit s (length ss) ≡ b → open_words s rs ss hs fs us ≡ rows_of (open_of s rs hs fs us)
        by true e = rw e
        by false e = rw e (sym (ap rows_of (refuses_settings s rs hs fs us (too_many e))))

  -- an accepted opening's state is the fresh one
  pub done_fresh : (open_of s rs hs fs us).opening.answer ≡ (Ok tt) → (open_of s rs hs fs us).opening.state ≡ fresh_state s
  unfolding refused_opening accepted_opening
  done_fresh d = by (settings_good s) refl (rows_are_fit s (length rs) (length hs) (length fs) (length us)) refl
    where
      never : open_of s rs hs fs us ≡ opened (refused_opening InvalidParameter) rs hs fs us → ⊥
      never m = answers_apart InvalidParameter (sym (ap (λ (o : Opened). o.opening.answer) m) ∙ d)

      by : (g : Bool) → settings_good s ≡ g → (f : Bool) → rows_are_fit s (length rs) (length hs) (length fs) (length us) ≡ f
          → (open_of s rs hs fs us).opening.state ≡ fresh_state s
      by false eg f ef = absurd (never (refuses_settings s rs hs fs us eg))
      by true eg false ef = absurd (never (refuses_rows s rs hs fs us eg ef))
      by true eg true ef = ap (λ (o : Opened). o.opening.state) (accepts s rs hs fs us eg ef)
