use native.Mathlib.Omega.{arith}
use Rattle.job_sheet.proofs.OutcomeCases.{lined_none, lined_turn, opened_put}
use Rattle.job_sheet.proofs.outcome.put_endpoints.Goals as goal

pub loop-k-init : goal.loop-k-init
loop-k-init c = lined_none _ _ _ 44

pub loop-k-preserved : goal.loop-k-preserved
loop-k-preserved c =
    let l = c.loop-k in
    let e = c.put_endpoint-next in
    let d = opened_put l.out l.next c.args.opened.now l.k _ _ _ 44 (omega arith) (e.ensures.out_after, (e.ensures.value, e.ensures.upper_bound)) in
    lined_turn _ _ _ 44 l.out _ l.next l.k _ (omega arith) l.invariant e.auto.out d
