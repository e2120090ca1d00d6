-- No detach of this port fails, over any calls from any accepted opening.
use Rattle.promises.specs.Runs.{EveryRun, core}
use Rattle.promises.specs.Chains.{NoDetachFails}
use Rattle.promises.proofs.theorems.ChainUses.{detaches}
use Rattle.promises.proofs.theorems.BoundaryCancels.{roomy}

pub no_detach : EveryRun NoDetachFails core
no_detach = detaches roomy
