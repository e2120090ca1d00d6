use Rattle.std.proofs.Common.{◌≡◌, true}
use Rattle.job_sheet.specs.Few.{few_of}
use Rattle.job_sheet.specs.Sheets.{no_endpoint}
use Rattle.job_sheet.specs.Reading.{endpoints_fit, endpoints_in}
use Rattle.job_sheet.proofs.sheet.read_endpoints.Given as goal

abbrev pub invariant-loop-i : goal.invariant-loop-i
invariant-loop-i l = (l.endpoints ≡ few_of 8 no_endpoint (endpoints_in l.bytes l.i)) × (endpoints_fit l.bytes l.i ≡ true)
