use Rattle.opening.proofs.OpenCases.{heads_opened}
use Rattle.opening.proofs.open.open_heads.Goals as goal

pub returns : goal.returns
returns c = search heads_opened
