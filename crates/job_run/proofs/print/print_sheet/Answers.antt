use Rattle.std.proofs.Common.{arith}
use Rattle.job_run.proofs.PrintCases.{bad_printed, good_printed}
use Rattle.job_run.proofs.print.print_sheet.Goals as goal

pub returns-in-Some : goal.returns-in-Some
returns-in-Some c =
    let a = c.args in
    let p = c.put_listing in
    let e = good_printed a.bytes.now a.out.now _ _ c.in-Some.job _ _ c.in-Some.ensures.value c.run.ensures c.outcome_of.ensures p.ensures.out_after p.ensures.value in
    record { out_after = e.0; value = e.1; upper_bound = omega (arith, p.ensures.upper_bound, p.auto.out) }

pub returns-in-None : goal.returns-in-None
returns-in-None c =
    let a = c.args in
    let p = c.put_bad in
    let e = bad_printed a.bytes.now a.out.now _ _ c.in-None.ensures.value p.ensures.out_after p.ensures.value in
    record { out_after = e.0; value = e.1; upper_bound = omega (arith, p.ensures.value, p.auto.out) }
