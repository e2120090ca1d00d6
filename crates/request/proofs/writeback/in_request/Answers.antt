use Rattle.request.proofs.WordsWriteback.{taken_beyond, taken_free}
use Rattle.request.proofs.writeback.in_request.Goals as goal

pub returns-then-place-core : goal.returns-then-place-core
returns-then-place-core c = search taken_free

pub returns-else-place-core : goal.returns-else-place-core
returns-else-place-core c = search taken_beyond
