use native.Mathlib.Omega.{arith}
use mathlib.Core.Path.{◌≡◌}
use lib.ListN.{length}
use borrow.Author.Rules.{rules}
use Rattle.job_sheet.specs.Outcomes.{place_lines}
use Rattle.job_sheet.proofs.OutcomeCases.{lined_done, lined_none, lined_turn, place_put}
use Rattle.job_sheet.proofs.outcome.put_places.Goals as goal

pub loop-p-init : goal.loop-p-init
loop-p-init c = lined_none _ _ _ 86

pub loop-p-preserved : goal.loop-p-preserved
loop-p-preserved c =
    let l = c.loop-p in
    let e = c.put_place-next in
    let a = c.args in
    let whole : length a.outcome.now.pool ≡ 257 = search rules in
    let d = place_put l.out l.next a.outcome.now.owner a.outcome.now.pool a.slot l.p _ _ 86 (omega (arith, whole)) (e.ensures.out_after, (e.ensures.value, e.ensures.upper_bound)) in
    lined_turn _ _ _ 86 l.out _ l.next l.p _ (omega arith) l.invariant e.auto.out d

pub returns : goal.returns
unfolding place_lines
returns c =
    let l = c.loop-p in
    let all = lined_done _ _ _ 86 _ _ l.p 16 _ (omega arith) (omega arith) (omega arith) l.invariant in
    record { out_after = all.0; value = all.1.0; upper_bound = all.1.1 }
