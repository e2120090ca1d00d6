use Rattle.ehci.proofs.WordsCases.{leave_words, open_words_lem}
use Rattle.ehci.proofs.decide.on_open.Goals as goal

clauses : {A B : Type 0} → A × B → record { by_index : A; tidies : B }
clauses p = record { by_index = p.0; tidies = p.1 }

pub returns : goal.returns
returns c = clauses (open_words_lem _ _ _ _ _ _ _ _ (leave_words _ _ _ _ _ _ c.leave.ensures c.opened_answer.ensures c.none.ensures.value) c.open_endpoint-answer.ensures.by_index c.open_endpoint-answer.ensures.tidy)
