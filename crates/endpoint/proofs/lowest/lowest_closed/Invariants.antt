use Rattle.endpoint.proofs.WordsCases.{Sought}
use Rattle.endpoint.proofs.lowest.lowest_closed.Given as goal

abbrev pub invariant-loop-k : goal.invariant-loop-k
invariant-loop-k l = Sought l.slots l.endpoints l.k
