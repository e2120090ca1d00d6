use Rattle.std.proofs.Common.{length}
use Rattle.pool.proofs.FoldTurns.{SeenTo}
use Rattle.pool.proofs.asked.fold_places.Given as goal

abbrev pub invariant-loop-j : goal.invariant-loop-j
invariant-loop-j l = SeenTo (length l.rows) l.ask l.rows l.j l.seen
