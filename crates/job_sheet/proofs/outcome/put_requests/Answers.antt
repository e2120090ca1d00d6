use native.Mathlib.Omega.{arith}
use Rattle.job_sheet.proofs.OutcomeCases.{lined_none, lined_turn, submitted_put}
use Rattle.job_sheet.proofs.outcome.put_requests.Goals as goal

pub loop-k-init : goal.loop-k-init
loop-k-init c = lined_none _ _ _ 1441

pub loop-k-preserved : goal.loop-k-preserved
loop-k-preserved c =
    let l = c.loop-k in
    let e = c.put_answered-next in
    let d = submitted_put l.out l.next c.args.outcome.now _ l.k _ _ _ 1441 c.as_slice-submitted.ensures.value (omega arith) (e.ensures.out_after, (e.ensures.value, e.ensures.upper_bound)) in
    lined_turn _ _ _ 1441 l.out _ l.next l.k _ (omega arith) l.invariant e.auto.out d
