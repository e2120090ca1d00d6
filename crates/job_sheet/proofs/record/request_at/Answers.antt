use Rattle.job_sheet.specs.Reading.{request_at}
use Rattle.job_sheet.proofs.record.request_at.Goals as goal

pub returns : goal.returns
unfolding request_at
returns c = rw (c.number48.ensures, c.number64.ensures, c.number32.ensures)
