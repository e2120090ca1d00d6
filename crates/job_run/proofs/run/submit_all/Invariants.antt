use Rattle.std.proofs.Common.{◌≡◌}
use Rattle.job_run.specs.Runs.{submitted_to}
use Rattle.job_run.specs.Words.{ran_view}
use Rattle.job_run.proofs.run.submit_all.Given as goal

abbrev pub invariant-loop-t : goal.invariant-loop-t
invariant-loop-t l = ran_view l.ran ≡ submitted_to l.t-index (ran_view l.initial.ran) l.job
