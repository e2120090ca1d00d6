-- What the run of a job came to, over a plain store. The words of the code's store stand for its state.
use Rattle.std.specs.Prelude.{List}
use Rattle.job_sheet.specs.declared.outcome.Opened.{Opened}
use Rattle.job_sheet.specs.declared.outcome.Submitted.{Submitted}
use Rattle.store.specs.Plain.{Store}

pub record Ran : Type 0 where
  pub store : Store
  pub opened : List Opened
  pub submitted : List Submitted
