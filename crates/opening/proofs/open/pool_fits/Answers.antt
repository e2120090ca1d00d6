use Rattle.opening.proofs.OpenCases.{none_fits, one_less}
use Rattle.opening.proofs.open.pool_fits.Goals as goal

pub returns-then-pool-ne0 : goal.returns-then-pool-ne0
returns-then-pool-ne0 c = search one_less

pub returns-else-pool-ne0 : goal.returns-else-pool-ne0
returns-else-pool-ne0 c = search none_fits
