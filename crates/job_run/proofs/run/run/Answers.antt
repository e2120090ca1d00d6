use Rattle.std.proofs.Common.{◌∙◌, ap, length}
use Rattle.job_run.specs.Plain.{Ran}
use Rattle.job_run.proofs.Cases.{none_submitted, run_is}
use Rattle.job_run.proofs.run.run.Goals as goal

pub submit_all-requires : goal.submit_all-requires
submit_all-requires c =
    ap (λ (r : Ran). length r.submitted) c.open_all.ensures ∙ ap length (none_submitted _ _ c.args.job.now) ∙ ap length c.new-2.ensures.items

pub returns : goal.returns
returns c = run_is c.args.job.now _ _ _ _ _ c.running_store.ensures c.new.ensures.items c.new-2.ensures.items c.open_all.ensures c.submit_all.ensures
