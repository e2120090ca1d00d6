use mathlib.Core.Path.{refl}
use Rattle.ehci.proofs.WordsCases.{drain_words, leave_words}
use Rattle.ehci.proofs.decide.on_drain.Goals as goal

clauses : {A B : Type 0} → A × B → record { slots_after : A; tidies : B }
clauses p = record { slots_after = p.0; tidies = p.1 }

pub returns : goal.returns
returns c = clauses (drain_words _ _ _ _ _ _ (leave_words _ _ _ _ _ _ c.leave.ensures c.drained_answer.ensures refl) c.drain-x.ensures.slots_after c.drain-x.ensures.tidy)
