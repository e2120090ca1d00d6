use Rattle.ehci.proofs.WordsCases.{submit_words}
use Rattle.ehci.proofs.decide.on_submit.Goals as goal

clauses : {A B C : Type 0} → A × (B × C) → record { by_index : A; tidy : B; writable : C }
clauses p = record { by_index = p.0; tidy = p.1.0; writable = p.1.1 }

pub returns : goal.returns
returns c = clauses (submit_words _ _ _ _ _ _ _ _ _ _ _ _ _ _ _ c.submitted_answer.ensures c.laid.ensures c.submit-x.ensures.by_index c.submit-x.ensures.tidy c.submit-x.ensures.laying_good)
