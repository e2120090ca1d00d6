use Rattle.job_sheet.proofs.OutcomeCases.{hidden_put, shown_put}
use Rattle.job_sheet.proofs.outcome.put_place.Goals as goal

pub returns-then-shown : goal.returns-then-shown
returns-then-shown c =
    let all = shown_put _ _ _ _ _ 86 _ c.if-shown.true (c.put_descriptor.ensures.out_after, (c.put_descriptor.ensures.value, c.put_descriptor.ensures.upper_bound)) in
    record { out_after = all.0; value = all.1.0; upper_bound = all.1.1 }

pub returns-else-shown : goal.returns-else-shown
returns-else-shown c =
    let all = hidden_put _ _ _ 86 _ c.if-shown.false in
    record { out_after = all.0; value = all.1.0; upper_bound = all.1.1 }
