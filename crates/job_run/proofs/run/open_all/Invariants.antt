use Rattle.std.proofs.Common.{◌≡◌}
use Rattle.job_run.specs.Runs.{opened_to}
use Rattle.job_run.specs.Words.{ran_view}
use Rattle.job_run.proofs.run.open_all.Given as goal

abbrev pub invariant-loop-e : goal.invariant-loop-e
invariant-loop-e l = ran_view l.ran ≡ opened_to l.e-index (ran_view l.initial.ran) l.job
