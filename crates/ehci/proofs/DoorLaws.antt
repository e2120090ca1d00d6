-- What the walk of `apply` cites of the definitions: the calls that it makes, together, are what `apply_words` says, and what is decided may be written.
use Rattle.std.specs.Prelude.{◌≡◌, ℕ, Bool, true, false, List, length}
use mathlib.Core.Path.{refl, sym, ◌∙◌, ap, subst}
use Rattle.bitset.specs.Places.{set_places}
use Rattle.common.proofs.TestLaws.{both_tells}
use Rattle.descriptor.specs.declared.qtd.QueueTransferDescriptor.{QueueTransferDescriptor as Record}
use Rattle.pool.specs.Chains.{fill_of, read_of, seen_from, view_of}
use Rattle.pool.specs.Words.{WritingGood, written_with}
use Rattle.pool.specs.declared.asked.AskWords.{AskWords}
use Rattle.pool.specs.Plain.{Ask}
use Rattle.pool.specs.declared.chain.View.{View}
use Rattle.pool.specs.declared.writing.Writing.{Writing}
use Rattle.pool.proofs.ChainLaws.{fill_no_chain}
use Rattle.opening.specs.Opening.{rows_are_fit}
use Rattle.words.specs.declared.cores.Core.{Core}
use Rattle.words.specs.View.{view}
use Rattle.word_ranges.specs.Judge.{words_good}
use Rattle.word_ranges.proofs.JudgeLaws.{judged}
use Rattle.common.specs.declared.answer.Refusal.TheVariants.{InvalidParameter}
use Rattle.ehci.specs.declared.call.Call.{Call}
use Rattle.ehci.specs.declared.look.Looked.{Looked}
use Rattle.ehci.specs.declared.reply.Decided.{Decided}
use Rattle.ehci.specs.declared.reply.Reply.{Reply}
use Rattle.ehci.specs.Decides.{Outcome, asks_of, came, decide_of}
use Rattle.ehci.specs.Door.{applied, apply_of, carried_out, seen_by}
use Rattle.ehci.specs.Replies.{refused_reply, replied}
use Rattle.ehci.specs.WordsDecides.{LooksGood, Writable, chain_in, decide_words, decided_view}
use Rattle.ehci.specs.WordsDoor.{Judged, WordsAfter, accepts_words, apply_words, reply_view}
use Rattle.ehci.proofs.WordsChains.{asked_same, writing_fills}

pub accepts_judged : (c : Core) (ws : List ℕ) (pool heads frames setups : ℕ) → accepts_words c ws pool heads frames setups ≡ true → Judged c ws pool heads frames setups
unfolding accepts_words
accepts_judged c ws pool heads frames setups e =
    let p = both_tells (rows_are_fit c.settings pool heads frames setups) (words_good c.settings c.rest ws) e in
    record { words = judged c.settings c.rest ws p.1; rows = p.0 }

module _ (core : Core) (ss : List ℕ) (rs : List Record) (hs fs us : List ℕ) (cl : Call) (l : Looked) (e₁ : LooksGood core ss (length rs) (length hs) (length fs) (length us) cl l) where
  -- what was looked at is what `decide` asks
  pub may_decide : l.good ≡ true → Judged core ss (length rs) (length hs) (length fs) (length us)
  may_decide h = accepts_judged core ss (length rs) (length hs) (length fs) (length us) (sym e₁.good_is ∙ h)

abbrev told : AskWords → List Record → View
told a rs = view_of (read_of a.stops (seen_from a.kind a.length a.limit 0 (set_places a.places) rs))

module _ (core : Core) (ss : List ℕ) (rs : List Record) (hs fs us : List ℕ) (cl : Call) (l : Looked) (asked : AskWords) (v : View) (g : Bool) (d : Decided) (x : Writing) (ws wh wf wu : List ℕ)
    (e₁ : LooksGood core ss (length rs) (length hs) (length fs) (length us) cl l) (ea : asked ≡ l.ask) (e₂ : v ≡ told asked rs) (eg : g ≡ l.good)
    (e₃ : came (decided_view core.settings d ws) wh wf wu ≡ decide_words core ss g (length rs) hs fs us v cl) (after : WordsAfter g core ss d.reply.rest ws) (writing : Writable (length rs) d.writing) (ex : x ≡ d.writing) where
  -- what is decided may be handed to `write`
  pub may_write : WritingGood (length rs) x
  may_write = subst (λ (y : Writing). WritingGood (length rs) y) (sym ex) writing.good

  abbrev accepts : Bool
  accepts = accepts_words core ss (length rs) (length hs) (length fs) (length us)

  judged_good : g ≡ accepts
  judged_good = eg ∙ e₁.good_is

  -- what was seen is what the plain call sees
  seen_is : accepts ≡ true → v ≡ seen_by (asks_of (view core ss) (length rs) cl) rs
  seen_is h =
      e₂ ∙ ap (λ (a : AskWords). told a rs) ea ∙ sym (asked_same l.ask rs) ∙ ap (λ (a : Ask). seen_by a rs) (e₁.ask_is (e₁.good_is ∙ h))

  carried : carried_out (decide_words core ss g (length rs) hs fs us v cl) rs ≡ apply_words core ss rs hs fs us cl
  unfolding decide_words apply_words apply_of refused_reply replied
  carried = by accepts refl
    where
      by : (b : Bool) → accepts ≡ b → carried_out (decide_words core ss g (length rs) hs fs us v cl) rs ≡ apply_words core ss rs hs fs us cl
      by true e = rw (judged_good ∙ e, e) (ap (λ (u : View). carried_out (decide_of (view core ss) (length rs) hs fs us u cl) rs) (seen_is e))
      by false e = rw (judged_good ∙ e, e) (ap (λ (zs : List Record). applied (refused_reply (view core ss) InvalidParameter).reply zs hs fs us) (fill_no_chain rs))

  module _ (r : Reply) (wr : List Record) (e₄ : wr ≡ written_with x rs) (e₅ : r ≡ d.reply) where
    written : wr ≡ fill_of (chain_in core.settings d.writing) rs
    written = e₄ ∙ ap (λ (y : Writing). written_with y rs) ex ∙ sym (writing_fills core.settings d.writing rs writing.one)

    -- the calls, together, are what the definition says
    pub together : applied (reply_view core.settings r ws) wr wh wf wu ≡ apply_words core ss rs hs fs us cl
    together =
        ap (λ (y : Reply). applied (reply_view core.settings y ws) wr wh wf wu) e₅
        ∙ ap (λ (zs : List Record). applied (reply_view core.settings d.reply ws) zs wh wf wu) written
        ∙ ap (λ (o : Outcome). carried_out o rs) e₃ ∙ carried

    -- and the slots are as they must be
    pub tidied : WordsAfter accepts core ss r.rest ws
    tidied =
        subst (λ (b : Bool). WordsAfter b core ss r.rest ws) judged_good
        (subst (λ (y : Reply). WordsAfter g core ss y.rest ws) (sym e₅) after)
