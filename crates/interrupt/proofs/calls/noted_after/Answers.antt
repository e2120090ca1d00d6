use Rattle.interrupt.proofs.WordsCases.{note_up, note_down, note_none}
use Rattle.interrupt.proofs.calls.noted_after.Goals as goal
use Rattle.interrupt.proofs.calls.noted_after.Goals.{else-any_of-via-then-any_of+else-doorbell-eq1, else-any_of-via-else-any_of}

pub returns-then-doorbell-eq1 : goal.returns-then-doorbell-eq1
returns-then-doorbell-eq1 c = search note_up

pub returns-else-any_of : goal.returns-else-any_of
returns-else-any_of c =
    elim c.else-any_of.branch [
      | else-any_of-via-then-any_of+else-doorbell-eq1 w ↦ search note_down
      | else-any_of-via-else-any_of w ↦ search note_none
    ]
