use Rattle.root_hub.specs.Calls.{with_scan}
use Rattle.root_hub.proofs.Cases.{start_bad, start_done}
use Rattle.root_hub.proofs.calls.start.Goals as goal

pub returns-then-not-hub_good : goal.returns-then-not-hub_good
returns-then-not-hub_good c = search start_bad

pub returns : goal.returns
unfolding with_scan
returns c = search start_done
