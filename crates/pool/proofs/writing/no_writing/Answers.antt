use Rattle.pool.specs.Words.{no_writing}
use Rattle.pool.proofs.writing.no_writing.Goals as goal

pub returns : goal.returns
unfolding no_writing
returns c = rw c.no_laying.ensures
