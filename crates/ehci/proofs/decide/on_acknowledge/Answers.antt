use mathlib.Core.Path.{refl}
use Rattle.ehci.proofs.WordsCases.{acknowledge_words, leave_words}
use Rattle.ehci.proofs.decide.on_acknowledge.Goals as goal

clauses : {A B : Type 0} → A × B → record { by_index : A; keeps : B }
clauses p = record { by_index = p.0; keeps = p.1 }

pub returns : goal.returns
returns c = clauses (acknowledge_words _ _ _ _ (leave_words _ _ _ _ _ _ c.leave.ensures c.acknowledged_answer.ensures refl) c.acknowledge-x.ensures.by_index c.acknowledge-x.ensures.free_value)
