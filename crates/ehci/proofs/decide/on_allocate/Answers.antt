use Rattle.ehci.proofs.WordsCases.{allot_words, leave_words}
use Rattle.ehci.proofs.decide.on_allocate.Goals as goal

clauses : {A B : Type 0} → A × B → record { by_index : A; keeps : B }
clauses p = record { by_index = p.0; keeps = p.1 }

pub returns : goal.returns
returns c = clauses (allot_words _ _ _ (leave_words _ _ _ _ _ _ c.leave.ensures c.allotted_answer.ensures c.none.ensures.value) c.allocate_address-a.ensures.by_index c.allocate_address-a.ensures.free_value)
