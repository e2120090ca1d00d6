use Rattle.request.proofs.WordsJudge.{words_closed, words_done, words_full, words_isochronous, words_kind, words_range, words_room, words_stopped}
use Rattle.request.proofs.judge.judge.Goals as goal

pub returns-then-phase-eq0 : goal.returns-then-phase-eq0
returns-then-phase-eq0 c = search words_closed

pub returns-then-running-eq0 : goal.returns-then-running-eq0
returns-then-running-eq0 c = search words_stopped

pub returns-then-phase-ge2 : goal.returns-then-phase-ge2
returns-then-phase-ge2 c = search words_full

pub returns-then-is_isochronous : goal.returns-then-is_isochronous
returns-then-is_isochronous c = search words_isochronous

pub returns-then-kind_number-word : goal.returns-then-kind_number-word
returns-then-kind_number-word c = search words_kind

pub returns-then-not-ranges_good : goal.returns-then-not-ranges_good
returns-then-not-ranges_good c = search words_range

pub returns-then-count-wanted : goal.returns-then-count-wanted
returns-then-count-wanted c = search words_room

pub returns : goal.returns
returns c = search words_done
