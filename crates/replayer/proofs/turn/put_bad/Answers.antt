use Rattle.replayer.proofs.TurnCases.{bad_put}
use native.Mathlib.Omega.{arith}
use Rattle.text.proofs.TextLaws.{decimal_length}
use Rattle.replayer.proofs.turn.put_bad.Goals as goal

clauses : {A B C : Type 0} → A × (B × C) → record { out_after : A; value : B; upper_bound : C }
clauses p = record { out_after = p.0; value = p.1.0; upper_bound = p.1.1 }

pub put-requires : goal.put-requires
put-requires c = omega (arith, c.requires, c.put_decimal-next.ensures.value, decimal_length c.args.n, c.put_decimal-next.auto.out, c.put_at.auto.row)

pub returns : goal.returns
returns c = clauses (bad_put _ _ _ _ _ _ _ (omega (arith, c.requires, c.put.auto.out, c.put_decimal-next.auto.out, c.put_at.auto.row)) c.put_at.ensures c.put_decimal-next.ensures.out_after c.put_decimal-next.ensures.value c.put.ensures.out_after c.put.ensures.value)
