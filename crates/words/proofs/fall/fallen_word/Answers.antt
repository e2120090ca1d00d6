use Rattle.words.proofs.FallLaws.{word_falls, word_waits, word_periodic, word_other}
use Rattle.words.proofs.fall.fallen_word.Goals as goal
use Rattle.words.proofs.fall.fallen_word.Goals.{else-phase-eq3-via-then-phase-eq3+then-kind-ne3+else-word-ge-BOUNDARY, else-phase-eq3-via-then-phase-eq3+else-kind-ne3, else-phase-eq3-via-else-phase-eq3}

pub returns-then-word-ge-BOUNDARY : goal.returns-then-word-ge-BOUNDARY
returns-then-word-ge-BOUNDARY c = search word_falls

pub returns-else-phase-eq3 : goal.returns-else-phase-eq3
returns-else-phase-eq3 c =
    elim c.else-phase-eq3.branch [
      | else-phase-eq3-via-then-phase-eq3+then-kind-ne3+else-word-ge-BOUNDARY w ↦ search word_waits
      | else-phase-eq3-via-then-phase-eq3+else-kind-ne3 w ↦ search word_periodic
      | else-phase-eq3-via-else-phase-eq3 w ↦ search word_other
    ]
