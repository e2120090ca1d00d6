use Rattle.job_sheet.specs.Sheets.{no_endpoint}
use Rattle.job_sheet.proofs.ReadCases.{control_none, control_there}
use Rattle.job_sheet.proofs.record.is_control.Goals as goal

pub returns-in-Some : goal.returns-in-Some
returns-in-Some c =
    let h = c.in-Some.ensures.lookup.3 in
    control_there _ _ h.0 _ (h.1 no_endpoint)

pub returns-in-None : goal.returns-in-None
returns-in-None c = control_none _ _ c.in-None.ensures.lookup.3
