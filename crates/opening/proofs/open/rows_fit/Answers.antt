use Rattle.opening.proofs.OpenCases.{fit_is}
use Rattle.opening.proofs.open.rows_fit.Goals as goal

pub returns : goal.returns
returns c = fit_is _ _ _ _ _ _ c.pool_fits.ensures
