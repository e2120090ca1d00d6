use Rattle.job_run.proofs.Cases.{running_is}
use Rattle.job_run.proofs.controller_of.running_store.Goals as goal

pub returns : goal.returns
returns c = running_is _ _ _ _ _ _ _ _ _ _ c.blank_store.ensures c.sheet_settings.ensures c.open_in.ensures.result_value c.after_call-started.ensures c.after_call-stopped.ensures c.after_call-halted.ensures c.after_call-reset.ensures c.after_call-set_up.ensures c.after_call-run.ensures c.after_call.ensures
