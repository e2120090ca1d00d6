use Rattle.root_hub.proofs.Cases.{state_is, state_probed}
use Rattle.root_hub.proofs.ports.port_state.Goals as goal

pub returns-in-0 : goal.returns-in-0
returns-in-0 c = search (state_is 0)

pub returns-in-1 : goal.returns-in-1
returns-in-1 c = search (state_is 1)

pub returns-in_default : goal.returns-in_default
returns-in_default c = search state_probed
