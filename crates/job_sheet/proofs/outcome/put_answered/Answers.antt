use native.Mathlib.Omega.{arith}
use Rattle.job_sheet.proofs.OutcomeCases.{accepted_put, one_then_other, refused_put}
use Rattle.job_sheet.proofs.outcome.put_answered.Goals as goal

pub returns-then-s-eq0 : goal.returns-then-s-eq0
returns-then-s-eq0 c =
    let a = c.args in
    let p = c.put_places.ensures in
    let q = c.put_request-next.ensures in
    let all = accepted_put a.out.now a.at a.outcome.now a.k a.s _ _ _ 1441 c.unwrap_or.ensures c.if-s-eq0.true
    (one_then_other a.out.now a.at _ _ _ _ _ _ 65 1376 (omega arith) (q.out_after, (q.value, q.upper_bound)) (p.out_after, (p.value, p.upper_bound))) in
    record { out_after = all.0; value = all.1.0; upper_bound = all.1.1 }

pub returns-else-s-eq0 : goal.returns-else-s-eq0
returns-else-s-eq0 c =
    let a = c.args in
    let q = c.put_request.ensures in
    let all = refused_put a.out.now a.at a.outcome.now a.k a.s _ _ c.if-s-eq0.false (q.out_after, (q.value, q.upper_bound)) in
    record { out_after = all.0; value = all.1.0; upper_bound = all.1.1 }
