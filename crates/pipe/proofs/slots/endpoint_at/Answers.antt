use Rattle.pipe.proofs.WordsLaws.{endpoint_of_lem}
use Rattle.pipe.proofs.slots.endpoint_at.Goals as goal

pub returns : goal.returns
returns c = search endpoint_of_lem
