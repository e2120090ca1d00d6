use Rattle.root_hub.proofs.Cases.{hub_is, hub_not, ports_most}
use Rattle.root_hub.proofs.ranges.hub_good.Goals as goal

pub place_good-requires : goal.place_good-requires
place_good-requires c = search ports_most

pub returns-then-hub : goal.returns-then-hub
returns-then-hub c = hub_is _ _ _ c.if-hub.true c.states_good.ensures c.place_good.ensures

pub returns-else-hub : goal.returns-else-hub
returns-else-hub c = search hub_not
