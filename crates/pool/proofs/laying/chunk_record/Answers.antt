use Rattle.pool.proofs.WordCases.{chunk_laid}
use Rattle.pool.proofs.laying.chunk_record.Goals as goal

pub returns : goal.returns
returns c = search chunk_laid
