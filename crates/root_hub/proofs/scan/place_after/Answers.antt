use Rattle.root_hub.proofs.Cases.{place_on, place_next, place_end}
use Rattle.root_hub.proofs.scan.place_after.Goals as goal

pub returns-then-step-ne0 : goal.returns-then-step-ne0
returns-then-step-ne0 c = search place_on

pub returns-then-port-ports : goal.returns-then-port-ports
returns-then-port-ports c = search place_next

pub returns : goal.returns
returns c = search place_end
