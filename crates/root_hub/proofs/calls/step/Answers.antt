use Rattle.root_hub.specs.Calls.{with_scan}
use Rattle.root_hub.proofs.Cases.{step_bad, step_none, step_done, at_port, at_most, at_index}
use borrow.Author.Rules.{rules}
use Rattle.root_hub.proofs.calls.step.Goals as goal

pub returns-then-not-hub_good : goal.returns-then-not-hub_good
returns-then-not-hub_good c = search step_bad

pub returns-then-now-eq0 : goal.returns-then-now-eq0
returns-then-now-eq0 c = search step_none

pub index_of-at-requires : goal.index_of-at-requires
index_of-at-requires c = search at_port

pub bounds-hub-at : goal.bounds-hub-at
bounds-hub-at c = search (rules, at_index)

pub place_after-place-requires : goal.place_after-place-requires
place_after-place-requires c = search (at_port, at_most)

pub bounds-hub-at-2 : goal.bounds-hub-at-2
bounds-hub-at-2 c = search (rules, at_index)

pub port_writes-requires : goal.port_writes-requires
port_writes-requires c = search at_port

pub returns : goal.returns
unfolding with_scan
returns c = search step_done
