use native.Mathlib.Omega.{arith}
use Rattle.job_sheet.proofs.ListingCases.{number_length, number_put}
use Rattle.job_sheet.proofs.listing.put_number.Goals as goal

pub returns : goal.returns
returns c =
    let a = c.args in
    let e = number_put a.out.now a.at (omega arith) _ _ _ _ a.n (c.put-next.ensures.out_after, c.put-next.ensures.value) (c.put_decimal.ensures.out_after, c.put_decimal.ensures.value) in
    record { out_after = e.0; value = e.1; upper_bound = omega (arith, e.1, number_length a.n) }
