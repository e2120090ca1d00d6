-- The returns of submit.
use Rattle.std.specs.Prelude.{◌≡◌, ℕ, Bool, false, not, List, length, Err, Ok, Result, ⊤}
use mathlib.Core.Path.{refl, sym, ap, ◌∙◌}
use borrow.Author.Tests.{not-false}
use Rattle.state.specs.Plain.{Ehci}
use Rattle.common.specs.Answers.{Verdict, passed, refused, first, settle}
use Rattle.controller.specs.Lent.{accepts_of, lengths}
use Rattle.common.specs.declared.answer.Refusal.{Refusal}
use Rattle.controller.specs.declared.lent.Readings.{Readings}
use Rattle.common.proofs.CheckLaws.{answers_apart}
use Rattle.request.specs.Submit.{answer_of, judge_of, refused_submit, settled_submit, submit_checks, submit_of, submitted}
use Rattle.request.specs.Plain.{Submitted}
use Rattle.request.specs.declared.judge.TransferRequest.{TransferRequest}

refusal_of : Refusal → Result ⊤ Refusal → Refusal
refusal_of r (Ok tt) = r
refusal_of r (Err q) = q

settle_refused : {A : Type 0} (v : Verdict) (old : Refusal → A) (new : A) (r : Refusal) → answer_of v ≡ Err r → settle v old new ≡ old r
unfolding refusal_of
settle_refused passed old new r e = absurd (answers_apart r (sym e))
settle_refused (refused q) old new r e = ap old (ap (refusal_of r) e)

settle_done : {A : Type 0} (v : Verdict) (old : Refusal → A) (new : A) → answer_of v ≡ (Ok tt) → settle v old new ≡ new
settle_done passed old new e = refl
settle_done (refused q) old new e = absurd (answers_apart q e)

module _ (s : Ehci) (pool : ℕ) (h f u : List ℕ) (r : Readings) (k : ℕ) (t : TransferRequest) (a : Bool) (ea : a ≡ accepts_of s (lengths pool (length h) (length f) (length u))) where
  module _ (n : not a ≡ false) (v : (Result ⊤ Refusal)) (ev : v ≡ judge_of s k t) where
    pub submit_refused : (q : Refusal) → v ≡ Err q → (x : Submitted) → x ≡ refused_submit s q → submitted x h f u ≡ submit_of s pool h f u r k t
    unfolding submit_of judge_of
    submit_refused q eq x ex =
        rw (ex, sym ea ∙ not-false a n)
        (sym (settle_refused (first (submit_checks s k t)) (λ z. submitted (refused_submit s z) h f u) (settled_submit s h f u r k t) q (sym ev ∙ eq)))

    pub submit_done : v ≡ (Ok tt) → (x : Submitted) (h' f' u' : List ℕ) → submitted x h' f' u' ≡ settled_submit s h f u r k t
        → submitted x h' f' u' ≡ submit_of s pool h f u r k t
    unfolding submit_of judge_of
    submit_done d x h' f' u' e =
        e ∙ rw (sym ea ∙ not-false a n)
        (sym (settle_done (first (submit_checks s k t)) (λ z. submitted (refused_submit s z) h f u) (settled_submit s h f u r k t) (sym ev ∙ d)))
