use Rattle.job_run.proofs.Cases.{open_step_is}
use Rattle.job_run.proofs.run.open_step.Goals as goal

pub returns : goal.returns
returns c =
    open_step_is c.args.ran.now c.call_on-called.result _ _ c.call_on-called.ensures.result_value c.answered_number.ensures c.args.e _ _ c.open_call.ensures
    c.slot_told.ensures c.push.ensures.items
