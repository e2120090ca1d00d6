use Rattle.job_sheet.specs.Listing.{bad_line}
use Rattle.job_sheet.proofs.listing.put_bad.Goals as goal

pub returns-clause-out_after : goal.returns-clause-out_after
unfolding bad_line
returns-clause-out_after c = c.put_at.ensures
