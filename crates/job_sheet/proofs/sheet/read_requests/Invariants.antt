use Rattle.std.proofs.Common.{◌≡◌, true, length}
use Rattle.job_sheet.specs.Few.{few_of}
use Rattle.job_sheet.specs.Sheets.{no_request}
use Rattle.job_sheet.specs.Reading.{requests_fit, requests_in}
use Rattle.job_sheet.proofs.sheet.read_requests.Given as goal

abbrev pub invariant-loop-i : goal.invariant-loop-i
invariant-loop-i l =
    (l.requests ≡ few_of 64 no_request (requests_in l.bytes (length l.endpoints) l.i)) × (requests_fit l.bytes l.endpoints (length l.endpoints) l.i ≡ true)
