use Rattle.root_hub.proofs.Cases.{turn_again, turn_is, turn_status}
use Rattle.root_hub.specs.declared.scan.Awaited.TheVariants.{Gone, Reset, Release, Owner}
use Rattle.root_hub.proofs.scan.turn.Goals as goal

pub returns-in-Status : goal.returns-in-Status
returns-in-Status c = search turn_status

pub returns-in-Gone : goal.returns-in-Gone
returns-in-Gone c = search (turn_is Gone)

pub returns-in-Reset : goal.returns-in-Reset
returns-in-Reset c = search (turn_is Reset)

pub returns-in-Release : goal.returns-in-Release
returns-in-Release c = search (turn_is Release)

pub returns-in-Again : goal.returns-in-Again
returns-in-Again c = search turn_again

pub returns-in-Owner : goal.returns-in-Owner
returns-in-Owner c = search (turn_is Owner)
