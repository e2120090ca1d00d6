use Rattle.call_log.specs.Lines.{shown_line}
use Rattle.call_log.specs.Words.{shown_in}
use Rattle.call_log.proofs.ChangeCases.{line_shown}
use Rattle.text.proofs.LineLaws.{hidden}
use Rattle.call_log.proofs.block.put_state.Goals as goal

pub returns-then-opened : goal.returns-then-opened
returns-then-opened c =
    let a = c.args in
    let h = c.state_line-line in
    let p = c.put_line in
    let all = line_shown a.out.now a.at a.opened (shown_line (shown_in a.core)) p.new.out p.result h.result c.if-opened.true h.ensures p.ensures.out_after
    p.ensures.value in
    record { out_after = all.0; value = all.1 }

pub returns : goal.returns
returns c =
    let a = c.args in
    let all = hidden a.out.now a.at a.opened (shown_line (shown_in a.core)) c.if-opened.false in
    record { out_after = all.0; value = all.1 }
