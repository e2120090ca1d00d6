-- Whatever the state, the rows and the call: at most six register writes.
use Rattle.ehci.specs.Door.{apply_of}
use Rattle.ehci.specs.Refusals.{FewWrites}
use Rattle.ehci.proofs.Fair.{decided_fair}
use Rattle.std.specs.Prelude.{length}

pub few_writes : FewWrites
unfolding apply_of
few_writes s pool heads frames setups call = (decided_fair s heads frames setups (length pool) _ call).few
