use Rattle.job_run.proofs.Cases.{submit_step_is}
use Rattle.job_run.proofs.run.submit_step.Goals as goal

pub returns : goal.returns
returns c =
    let slot = rw c.as_slice.ensures.value at c.slot_for-slot.ensures in
    submit_step_is c.args.ran.now c.call_on-called.result _ _ c.call_on-called.ensures.result_value c.answered_number.ensures c.args.job.now c.args.t _ _ _ slot
    c.submit_call.ensures c.id_told.ensures c.push.ensures.items
