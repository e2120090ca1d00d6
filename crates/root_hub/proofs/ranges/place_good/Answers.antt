use Rattle.root_hub.proofs.Cases.{place_idle, place_beyond, place_begun}
use Rattle.root_hub.proofs.ranges.place_good.Goals as goal

pub returns-then-port-eq0 : goal.returns-then-port-eq0
returns-then-port-eq0 c = search place_idle

pub returns-then-hub-port : goal.returns-then-hub-port
returns-then-hub-port c = search place_beyond

pub returns : goal.returns
returns c = search place_begun
