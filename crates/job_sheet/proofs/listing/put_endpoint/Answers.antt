use native.Mathlib.Omega.{arith}
use Rattle.job_sheet.proofs.ListingCases.{endpoint_put}
use Rattle.job_sheet.proofs.listing.put_endpoint.Goals as goal

pub returns : goal.returns
returns c =
    let a = c.args in
    let f = c.put_number-next.ensures in
    let g = c.put_number-next-2.ensures in
    let e = endpoint_put a.out.now a.at (omega arith) _ _ _ _ _ _ _ _ a.k a.answer (c.put-next.ensures.out_after, c.put-next.ensures.value) (f.out_after, f.value) (g.out_after, g.value) (c.put.ensures.out_after, c.put.ensures.value) in
    record { out_after = e.0; value = e.1; upper_bound = omega (arith, f.upper_bound, g.upper_bound, c.put-next.ensures.value, c.put.ensures.value) }
