use Rattle.replayer.proofs.TurnCases.{shown_put}
use Rattle.replayer.proofs.turn.put_shown.Goals as goal

clauses : {A B C : Type 0} → A × (B × C) → record { out_after : A; value : B; upper_bound : C }
clauses p = record { out_after = p.0; value = p.1.0; upper_bound = p.1.1 }

pub returns : goal.returns
returns c = clauses (shown_put c.args.k.now c.args.acted _ _ _ _ _ c.rows_of-before.ensures c.rows_of-after.ensures (c.put_block.ensures.by_index, (c.put_block.ensures.by_index_2, c.put_block.ensures.upper_bound)))
