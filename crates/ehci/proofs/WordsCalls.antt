-- Any call over words: what its arm may count on, and what `decide` ensures by what its arm says.
use Rattle.std.specs.Prelude.{◌≡◌, ℕ, ◌+◌, ◌*◌, ◌<◌, Bool, true, false, not, List, length}
use mathlib.Core.Path.{refl, sym, ap, subst, ◌∙◌}
use native.Mathlib.Omega.{arith}
use Rattle.pool.specs.declared.chain.View.{View}
use Rattle.pool.specs.declared.writing.Writing.{Writing}
use Rattle.common.specs.declared.answer.Refusal.TheVariants.{InvalidParameter}
use Rattle.common.proofs.TestLaws.{false_true}
use Rattle.settings.specs.Settings.{pool_length}
use Rattle.opening.specs.Opening.{rows_are_fit}
use Rattle.opening.proofs.OpenLaws.{rows_tell}
use Rattle.words.specs.declared.cores.Core.{Core}
use Rattle.words.specs.Good.{Good, Tidy}
use Rattle.words.specs.View.{state_of, view}
use Rattle.words.proofs.GoodLaws.{good_numbers, good_settings}
use Rattle.words.proofs.TidyLaws.{tidy_rest}
use Rattle.ehci.specs.declared.call.Call.{Call}
use Rattle.ehci.specs.Plain.{Decided as DecidedPlain}
use Rattle.ehci.specs.declared.reply.Decided.{Decided}
use Rattle.ehci.specs.Replies.{refused_reply}
use Rattle.ehci.specs.Decides.{call_of, came, decide_of}
use Rattle.ehci.specs.WordsDecides.{Keeps, Tidies, Writable, decide_words, decided_view, refused_reply_words}
use Rattle.ehci.specs.WordsDoor.{Judged, WordsAfter}
use Rattle.ehci.proofs.WordsChains.{no_writable}
use Rattle.ehci.proofs.WordsCases.{left_view}

pub not-true : (b : Bool) → not b ≡ true → b ≡ false
not-true false e = refl
not-true true e = sym e

pub not-false : (b : Bool) → not b ≡ false → b ≡ true
not-false true e = refl
not-false false e = sym e

-- what an arm may count on
pub good_on : (c : Core) (ws : List ℕ) (good : Bool) → (good ≡ true → Good c.settings c.rest ws) → not good ≡ false → Good c.settings c.rest ws
good_on c ws good f h = f (not-false good h)

module _ (c : Core) (ws : List ℕ) (n h f u : ℕ) (good : Bool) (judged : good ≡ true → Judged c ws n h f u) (on : not good ≡ false) where
  pub words_good_lem : Good c.settings c.rest ws
  words_good_lem = (judged (not-false good on)).words

  pub rows_fit : rows_are_fit c.settings n h f u ≡ true
  rows_fit = (judged (not-false good on)).rows

  pub heads_fit : h ≡ 17 * (c.settings.endpoints + 1)
  heads_fit = (rows_tell c.settings n h f u rows_fit).heads_fit

  pub frames_fit : f ≡ 1024
  frames_fit = (rows_tell c.settings n h f u rows_fit).frames_fit

  pub setups_fit : u ≡ 8 * c.settings.endpoints
  setups_fit = (rows_tell c.settings n h f u rows_fit).setups_fit

  pub waited_fits : c.rest.waited < 65536
  waited_fits =
      omega (arith, (good_settings c.settings c.rest ws words_good_lem).wait_most, (good_numbers c.settings c.rest ws words_good_lem).waited_below)

  pub frames_below : c.settings.frames < 4294967296
  frames_below = omega (arith, (good_settings c.settings c.rest ws words_good_lem).frames_end)

  pub heads_below : c.settings.heads < 4294967296
  heads_below = omega (arith, (good_settings c.settings c.rest ws words_good_lem).heads_end)

module _ (c : Core) (ws : List ℕ) (good : Bool) (n : ℕ) (hs fs us : List ℕ) (v : View) (call : Call) where
  -- what `decide` ensures
  abbrev Answers : Decided → List ℕ → List ℕ → List ℕ → List ℕ → Type 0
  Answers d ws' h f u =
      (came (decided_view c.settings d ws') h f u ≡ decide_words c ws good n hs fs us v call)
      × (WordsAfter good c ws d.reply.rest ws' × Writable n d.writing)

  pub words_refuse : not good ≡ true → (d : Decided) → d ≡ refused_reply_words c.rest InvalidParameter → Answers d ws hs fs us
  unfolding decide_words refused_reply
  words_refuse h d e =
      let no : good ≡ false = not-true good h in (
        rw no (ap (λ (x : DecidedPlain). came x hs fs us) (left_view c.settings d _ _ _ ws e)),
        (
          record {
            tidy = λ yes. absurd (false_true (sym no ∙ yes));
            rest_stays = λ q. ap (λ (x : Decided). x.reply.rest) e;
            row_stays = λ q. refl;
          },
          subst (λ (x : Writing). Writable n x) (sym (ap (λ (x : Decided). x.writing) e)) (no_writable n),
        ),
      )

  module _ (on : not good ≡ false) (judged : good ≡ true → Judged c ws n (length hs) (length fs) (length us)) (k : Call) (is : call ≡ k) where
    words_call : (d : Decided) (ws' h f u : List ℕ) → came (decided_view c.settings d ws') h f u ≡ call_of (view c ws) n hs fs us v k
        → Tidy c.settings d.reply.rest ws' → Writable n d.writing → Answers d ws' h f u
    unfolding decide_words decide_of state_of
    words_call d ws' h f u e t w =
        let yes : good ≡ true = not-false good on in (
          rw (yes, (judged yes).rows) (e ∙ ap (call_of (view c ws) n hs fs us v) (sym is)),
          (record { tidy = λ q. t; rest_stays = λ no. absurd (false_true (sym no ∙ yes)); row_stays = λ no. absurd (false_true (sym no ∙ yes)) }, w),
        )

    pub tidies_call : (d : Decided) (ws' h f u : List ℕ) → came (decided_view c.settings d ws') h f u ≡ call_of (view c ws) n hs fs us v k
        → Tidies c d ws' → Answers d ws' h f u
    tidies_call d ws' h f u e t =
        words_call d ws' h f u e t.tidy (subst (λ (x : Writing). Writable n x) (sym t.none_written) (no_writable n))

    pub keeps_call : (d : Decided) (h f u : List ℕ) → came (decided_view c.settings d ws) h f u ≡ call_of (view c ws) n hs fs us v k
        → Keeps c d → Answers d ws h f u
    keeps_call d h f u e t =
        words_call d ws h f u e (tidy_rest c.settings c.rest d.reply.rest ws t.free_stays (judged (not-false good on)).words.tidy)
        (subst (λ (x : Writing). Writable n x) (sym t.none_written) (no_writable n))

    -- what is written is of the pool that opening fixed
    pub writes_call : (d : Decided) (ws' h f u : List ℕ) → came (decided_view c.settings d ws') h f u ≡ call_of (view c ws) n hs fs us v k
        → Tidy c.settings d.reply.rest ws' → Writable (pool_length c.settings) d.writing → Answers d ws' h f u
    writes_call d ws' h f u e t w =
        let same = (rows_tell c.settings n (length hs) (length fs) (length us) (judged (not-false good on)).rows).pool_fits_lem in
        words_call d ws' h f u e t (subst (λ (m : ℕ). Writable m d.writing) (sym same) w)
