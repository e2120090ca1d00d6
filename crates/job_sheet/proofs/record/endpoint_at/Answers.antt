use Rattle.job_sheet.specs.Reading.{endpoint_at}
use Rattle.job_sheet.proofs.record.endpoint_at.Goals as goal

pub returns : goal.returns
unfolding endpoint_at
returns c = rw c.number16.ensures
