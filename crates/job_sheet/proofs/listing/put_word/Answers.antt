use native.Mathlib.Omega.{arith}
use Rattle.job_sheet.proofs.ListingCases.{word_put}
use Rattle.job_sheet.proofs.listing.put_word.Goals as goal

pub returns : goal.returns
returns c =
    let a = c.args in
    let e = c.put_hex.ensures in
    let all = word_put a.out.now a.at (omega arith) _ _ _ _ a.word (c.put-next.ensures.out_after, c.put-next.ensures.value) e.out_after e.value in
    record { out_after = all.0; value = all.1 }
