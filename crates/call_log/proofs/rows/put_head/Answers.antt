use Rattle.std.specs.Prelude.{◌/◌, ◌%◌, eqb}
use borrow.Author.Tests.{eq-eqb, ne_eqb}
use Rattle.call_log.specs.Changes.{head_change}
use Rattle.call_log.specs.Lines.{head_line}
use Rattle.call_log.proofs.ChangeCases.{shows, stays}
use Rattle.call_log.proofs.rows.put_head.Goals as goal

pub returns-then-before-after : goal.returns-then-before-after
unfolding head_change
returns-then-before-after c =
    let a = c.args in
    let all = stays a.out.now a.at (eqb a.before a.after) (head_line (a.i / 17) (a.i % 17) a.after) (eq-eqb a.before a.after c.if-before-after.true) in
    record { out_after = all.0; value = all.1 }

pub returns : goal.returns
unfolding head_change
returns c =
    let a = c.args in
    let h = c.head_line-line in
    let p = c.put_line in
    let all = shows a.out.now a.at (eqb a.before a.after) (head_line (a.i / 17) (a.i % 17) a.after) p.new.out p.result h.result
    (ne_eqb a.before a.after c.if-before-after.false) h.ensures p.ensures.out_after p.ensures.value in
    record { out_after = all.0; value = all.1 }
