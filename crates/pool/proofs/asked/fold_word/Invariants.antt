use Rattle.std.proofs.Common.{length, ◌<◌, ◌^◌}
use Rattle.pool.proofs.FoldTurns.{Seeing, left_of}
use Rattle.pool.proofs.asked.fold_word.Given as goal

abbrev pub invariant-loop-left : goal.invariant-loop-left
invariant-loop-left l = record { fits : l.left < 2 ^ 64; seeing : Seeing (length l.rows) l.ask l.rows l.j l.fn.before l.left l.seen }

abbrev pub decreases-loop-left : goal.decreases-loop-left
decreases-loop-left l = length (left_of (length l.rows) l.ask l.rows l.j l.fn.before l.left)
