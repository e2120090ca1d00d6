use mathlib.Core.Path.{refl}
use Rattle.ehci.proofs.WordsCases.{cancel_words, leave_words}
use Rattle.ehci.proofs.decide.on_cancel.Goals as goal

clauses : {A B : Type 0} → A × B → record { by_index : A; tidies : B }
clauses p = record { by_index = p.0; tidies = p.1 }

pub returns : goal.returns
returns c = clauses (cancel_words _ _ _ _ _ _ _ _ _ _ _ _ (leave_words _ _ _ _ _ _ c.leave.ensures c.simple.ensures refl) c.cancel-x.ensures.by_index c.cancel-x.ensures.tidy)
