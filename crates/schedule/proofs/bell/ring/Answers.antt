use Rattle.schedule.proofs.BellCases.{rings, rings_none, rings_up}
use Rattle.schedule.proofs.bell.ring.Goals as goal
use Rattle.schedule.proofs.bell.ring.Goals.{else-bell-eq0-via-then-bell-eq0+else-bell-ge1, else-bell-eq0-via-else-bell-eq0}

pub returns-then-bell-ge1 : goal.returns-then-bell-ge1
returns-then-bell-ge1 c = search rings

pub returns : goal.returns
returns c =
    elim c.else-bell-eq0.branch [
      | else-bell-eq0-via-then-bell-eq0+else-bell-ge1 w ↦ search rings_none
      | else-bell-eq0-via-else-bell-eq0 w ↦ search rings_up
    ]
