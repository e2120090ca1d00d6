use Rattle.root_hub.proofs.Cases.{status_is}
use mathlib.Core.Bool.{true, false}
use Rattle.root_hub.specs.declared.ports.PortState.TheVariants.{Uninit, Reseted, Probed}
use Rattle.root_hub.proofs.scan.status_turn.Goals as goal

pub returns-then-connected : goal.returns-then-connected
returns-then-connected c = search (status_is Uninit true)

pub returns-else-connected : goal.returns-else-connected
returns-else-connected c = search (status_is Uninit false)

pub returns-then-connected-2 : goal.returns-then-connected-2
returns-then-connected-2 c = search (status_is Reseted true)

pub returns-else-connected-2 : goal.returns-else-connected-2
returns-else-connected-2 c = search (status_is Reseted false)

pub returns-then-connected-3 : goal.returns-then-connected-3
returns-then-connected-3 c = search (status_is Probed true)

pub returns-else-connected-3 : goal.returns-else-connected-3
returns-else-connected-3 c = search (status_is Probed false)
