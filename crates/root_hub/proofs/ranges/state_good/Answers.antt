use Rattle.root_hub.proofs.Cases.{good_port, good_past}
use Rattle.root_hub.proofs.ranges.state_good.Goals as goal

pub returns-then-k-ports : goal.returns-then-k-ports
returns-then-k-ports c = search good_port

pub returns-else-k-ports : goal.returns-else-k-ports
returns-else-k-ports c = search good_past
