-- The run of the code: the words of its store stand for the state of a plain one.
use Rattle.store.specs.Words.{store_view}
use Rattle.job_sheet.specs.declared.outcome.Outcome.{Outcome}
use Rattle.job_sheet.specs.Few.{few_of, items}
use Rattle.job_sheet.specs.Outcomes.{not_opened, not_submitted}
use Rattle.job_run.specs.declared.run.Ran.{Ran}
use Rattle.job_run.specs.Plain as plain

abbrev pub ran_view : Ran → plain.Ran
ran_view r = record { store = store_view r.store; opened = items r.opened; submitted = items r.submitted }

-- an outcome by the things of its lists
abbrev pub outcome_view : Outcome → Outcome
outcome_view o =
    record {
      opened = few_of 8 not_opened (items o.opened);
      submitted = few_of 64 not_submitted (items o.submitted);
      owner = o.owner;
      pool = o.pool;
    }
