use mathlib.Core.Path.{refl}
use Rattle.request.proofs.WordsWriteback.{back_refused, back_written, mark_good_lem, no_mark_good}
use Rattle.request.proofs.writeback.writeback.Goals as goal

pub returns-then-not-in_request-clause-by_index : goal.returns-then-not-in_request-clause-by_index
returns-then-not-in_request-clause-by_index c = search back_refused

pub returns-clause-by_index : goal.returns-clause-by_index
returns-clause-by_index c = search back_written

pub returns-clause-marking_good : goal.returns-clause-marking_good
returns-clause-marking_good c = search mark_good_lem
