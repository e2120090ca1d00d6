use Rattle.store.proofs.OwnersLaws.{NoneTo}
use Rattle.store.proofs.owners.owner_of.Given as goal

abbrev pub invariant-loop-k : goal.invariant-loop-k
invariant-loop-k l = NoneTo l.slots l.place l.k
