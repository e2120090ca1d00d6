use Rattle.schedule.proofs.WordsCases.{Searched}
use Rattle.schedule.proofs.links.search.Given as goal

abbrev pub invariant-loop-j : goal.invariant-loop-j
invariant-loop-j l = Searched l.slots l.heads l.k l.framed l.address l.j l.fn.core.settings.endpoints
