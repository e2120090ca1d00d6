use mathlib.Core.Path.{refl}
use Rattle.ehci.proofs.WordsCases.{collect_words, leave_words}
use Rattle.ehci.proofs.decide.on_collect.Goals as goal

clauses : {A B : Type 0} → A × B → record { by_index : A; tidies : B }
clauses p = record { by_index = p.0; tidies = p.1 }

pub returns : goal.returns
returns c = clauses (collect_words _ _ _ _ _ _ _ _ _ _ _ _ _ (leave_words _ _ _ _ _ _ c.leave.ensures c.collected_answer.ensures refl) c.collect-x.ensures.by_index c.collect-x.ensures.tidy)
