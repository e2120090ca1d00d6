use Rattle.store.proofs.OwnersCases.{owners_done}
use Rattle.store.proofs.owners.owners.Goals as goal

pub returns : goal.returns
returns c = search owners_done
