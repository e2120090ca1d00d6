-- The returns of writeback.
use Rattle.std.specs.Prelude.{◌≡◌, ℕ, Bool, true, false, not, Ok}
use mathlib.Core.Path.{sym, ◌∙◌}
use borrow.Author.Tests.{not-false, not-true}
use Rattle.pool.specs.Plain.{Chain}
use Rattle.state.specs.Plain.{Ehci}
use Rattle.controller.specs.Lent.{accepts_of}
use Rattle.common.specs.declared.answer.Refusal.TheVariants.{InvalidParameter}
use Rattle.controller.specs.Plain.{Lengths}
use Rattle.request.specs.Writeback.{in_request, refused_writeback, token_chain, writeback_of}
use Rattle.request.specs.Plain.{WrittenBack}

module _ (s : Ehci) (lent : Lengths) (place token : ℕ) (a : Bool) (ea : a ≡ accepts_of s lent) where
  module _ (ha : not a ≡ false) (i : Bool) (ei : i ≡ in_request s place) where
    pub back_none : not i ≡ true → (r : WrittenBack) → r ≡ refused_writeback s InvalidParameter → r ≡ writeback_of s lent place token
    unfolding writeback_of
    back_none h r er = er ∙ rw (sym ea ∙ not-false a ha, sym ei ∙ not-true i h)

    pub back_done : not i ≡ false → (c : Chain) → c ≡ token_chain s place token
        → record { answer = Ok tt; state = s; chain = c } ≡ writeback_of s lent place token
    unfolding writeback_of
    back_done h c ec = rw (sym ea ∙ not-false a ha, sym ei ∙ not-false i h, ec)
