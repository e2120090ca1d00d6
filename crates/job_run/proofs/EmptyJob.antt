-- A job with no records prints nothing.
use Rattle.std.specs.Prelude.{◌≡◌, [], Some}
use mathlib.Core.Path.{refl}
use Rattle.job_sheet.specs.declared.sheet.Job.{Job}
use Rattle.job_sheet.specs.Reading.{packed}
use Rattle.job_sheet.proofs.ListingExamples.{none}
use Rattle.job_run.specs.Prints.{outcome_of, print_sheet}
use Rattle.job_run.specs.Runs.{opened_to, run_of, submitted_to}

abbrev empty : Job
empty = packed (record { endpoints = []; requests = [] })

pub empty_printed : print_sheet (Some empty) ≡ []
unfolding run_of opened_to submitted_to
empty_printed = none (outcome_of (run_of empty)) refl refl
