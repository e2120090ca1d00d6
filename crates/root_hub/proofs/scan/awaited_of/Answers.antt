use Rattle.root_hub.proofs.Cases.{await_is, await_owner}
use Rattle.root_hub.proofs.scan.awaited_of.Goals as goal

pub returns-in-1 : goal.returns-in-1
returns-in-1 c = search (await_is 1)

pub returns-in-2 : goal.returns-in-2
returns-in-2 c = search (await_is 2)

pub returns-in-3 : goal.returns-in-3
returns-in-3 c = search (await_is 3)

pub returns-in-4 : goal.returns-in-4
returns-in-4 c = search (await_is 4)

pub returns-in-5 : goal.returns-in-5
returns-in-5 c = search (await_is 5)

pub returns-in_default : goal.returns-in_default
returns-in_default c = search await_owner
