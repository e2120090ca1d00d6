use Rattle.job_run.proofs.PrintCases.{outcome_is}
use Rattle.job_run.proofs.print.outcome_of.Goals as goal

pub returns : goal.returns
returns c = search outcome_is
