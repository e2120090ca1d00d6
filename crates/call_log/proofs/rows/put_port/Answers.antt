use Rattle.std.specs.Prelude.{◌+◌, not, ◌||◌, eqb}
use Rattle.call_log.specs.Changes.{port_change}
use Rattle.call_log.specs.Lines.{port_line}
use Rattle.call_log.proofs.ChangeCases.{line_shown}
use Rattle.text.proofs.LineLaws.{hidden}
use Rattle.call_log.proofs.rows.put_port.Goals as goal

pub returns-then-opening-before : goal.returns-then-opening-before
unfolding port_change
returns-then-opening-before c =
    let a = c.args in
    let h = c.port_line-line in
    let p = c.put_line in
    let all = line_shown a.out.now a.at (a.opening || not (eqb a.before a.after)) (port_line (a.i + 1) a.after) p.new.out p.result h.result
    c.if-opening-before.true h.ensures p.ensures.out_after p.ensures.value in
    record { out_after = all.0; value = all.1 }

pub returns : goal.returns
unfolding port_change
returns c =
    let a = c.args in
    let all = hidden a.out.now a.at (a.opening || not (eqb a.before a.after)) (port_line (a.i + 1) a.after) c.if-opening-before.false in
    record { out_after = all.0; value = all.1 }
