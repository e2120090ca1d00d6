-- What `sheet` prints of a sheet's bytes.
use Rattle.std.specs.Prelude.{ℕ, ◌<◌, Option, Some, None, List, ◌≡◌, take}
use Rattle.job_sheet.specs.declared.outcome.Outcome.{Outcome}
use Rattle.job_sheet.specs.declared.sheet.Job.{Job}
use Rattle.job_sheet.specs.Few.{few_of}
use Rattle.job_sheet.specs.Listing.{bad_line}
use Rattle.job_sheet.specs.Outcomes.{listing_of, not_opened, not_submitted}
use Rattle.job_sheet.specs.Reading.{sheet_of}
use Rattle.job_run.specs.Plain.{Ran}
use Rattle.job_run.specs.Runs.{run_of}

-- the answers, and the pool at the end with the owner of each place
abbrev pub outcome_of : Ran → Outcome
outcome_of ran =
    record {
      opened = few_of 8 not_opened ran.opened;
      submitted = few_of 64 not_submitted ran.submitted;
      owner = ran.store.state.owner;
      pool = ran.store.pool;
    }

abbrev pub print_sheet : Option Job → List ℕ
print_sheet (Some job) = listing_of (outcome_of (run_of job))
print_sheet None = bad_line

-- the listing of the job that these bytes are, or "bad sheet" alone
unfoldable pub printed_of : List ℕ → List ℕ
printed_of bytes = print_sheet (sheet_of bytes)

-- 8 endpoints of 6 bytes and 64 requests of 20, and the two counts
abbrev pub longest_sheet : ℕ
longest_sheet = 1332

-- with room for more than the longest sheet, what is cut off what is read changes nothing that is printed
abbrev pub RoomEnough : Type 0
RoomEnough = (bytes : List ℕ) (room : ℕ) → longest_sheet < room → printed_of (take room bytes) ≡ printed_of bytes
