use Rattle.root_hub.proofs.Cases.{power_bad, power_none, power_done, power_port}
use Rattle.root_hub.proofs.calls.port_power.Goals as goal

pub returns-then-not-hub_good : goal.returns-then-not-hub_good
returns-then-not-hub_good c = search power_bad

pub returns-then-not-port-hub : goal.returns-then-not-port-hub
returns-then-not-port-hub c = search power_none

pub port_offset-requires : goal.port_offset-requires
port_offset-requires c = search power_port

pub returns : goal.returns
returns c = search power_done
