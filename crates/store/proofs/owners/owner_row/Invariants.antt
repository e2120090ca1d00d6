use Rattle.store.proofs.OwnersLaws.{RowTo}
use Rattle.store.proofs.owners.owner_row.Given as goal

abbrev pub invariant-loop-i : goal.invariant-loop-i
invariant-loop-i l = RowTo l.slots l.i l.owner-items
