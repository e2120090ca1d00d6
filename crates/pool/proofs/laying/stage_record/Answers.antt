use Rattle.pool.proofs.WordCases.{stage_made}
use Rattle.pool.proofs.laying.stage_record.Goals as goal

pub returns : goal.returns
returns c = search stage_made
