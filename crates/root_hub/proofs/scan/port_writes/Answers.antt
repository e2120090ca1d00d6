use Rattle.root_hub.proofs.Cases.{writes_none, writes_value}
use Rattle.root_hub.proofs.scan.port_writes.Goals as goal

pub returns-in-None : goal.returns-in-None
returns-in-None c = search writes_none

pub returns-in-Some : goal.returns-in-Some
returns-in-Some c = search writes_value
