use Rattle.ehci.proofs.WordsCases.{written_words}
use Rattle.ehci.proofs.decide.on_writeback.Goals as goal

clauses : {A B C : Type 0} → A × (B × C) → record { by_index : A; rest_value : B; writable : C }
clauses p = record { by_index = p.0; rest_value = p.1.0; writable = p.1.1 }

pub returns : goal.returns
returns c = clauses (written_words _ _ _ _ _ _ _ c.simple.ensures c.none.ensures.value c.marked.ensures c.writeback-x.ensures.by_index c.writeback-x.ensures.rest_value c.writeback-x.ensures.marking_good)
