use Rattle.pool.proofs.ChainLaws.{fresh_shared, fresh_blank}
use Rattle.pool.proofs.marking.fresh_record.Goals as goal

pub returns-then-k-count : goal.returns-then-k-count
returns-then-k-count c = search fresh_shared

pub returns : goal.returns
returns c = search fresh_blank
