use Rattle.call_log.specs.Lines.{frame_line}
use Rattle.call_log.proofs.ChangeCases.{line_shown}
use Rattle.text.proofs.LineLaws.{hidden}
use Rattle.call_log.proofs.frames.put_frame.Goals as goal

pub returns-then-ends : goal.returns-then-ends
returns-then-ends c =
    let a = c.args in
    let h = c.frame_line-line in
    let p = c.put_line in
    let all = line_shown a.out.now a.at a.ends (frame_line a.first a.i a.value) p.new.out p.result h.result
    c.if-ends.true h.ensures p.ensures.out_after p.ensures.value in
    record { out_after = all.0; value = all.1 }

pub returns : goal.returns
returns c =
    let a = c.args in
    let all = hidden a.out.now a.at a.ends (frame_line a.first a.i a.value) c.if-ends.false in
    record { out_after = all.0; value = all.1 }
