use native.Mathlib.Omega.{arith}
use Rattle.job_sheet.specs.Outcomes.{listing_of}
use Rattle.job_sheet.proofs.OutcomeCases.{one_then_other}
use Rattle.job_sheet.proofs.outcome.put_listing.Goals as goal

pub returns : goal.returns
unfolding listing_of
returns c =
    let a = c.args in
    let e = c.put_endpoints-next.ensures in
    let q = c.put_requests.ensures in
    let f = rw c.as_slice.ensures.value at e.out_after in
    let l = rw c.as_slice.ensures.value at e.value in
    let all = one_then_other a.out.now a.at _ _ _ _ _ _ 352 92224 (omega arith) (f, (l, e.upper_bound)) (q.out_after, (q.value, q.upper_bound)) in
    record { out_after = all.0; value = all.1.0; upper_bound = all.1.1 }
