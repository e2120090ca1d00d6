use Rattle.std.proofs.Common.{ap, ◌∙◌}
use Rattle.std.specs.Prelude.{Ok}
use Rattle.pool.specs.RecordCalls.{replaced}
use Rattle.pool.proofs.RecordCases.{replace_inside, replace_beyond}
use Rattle.pool.proofs.record.replace_record.Goals as goal

pub returns-then-place-length : goal.returns-then-place-length
returns-then-place-length c =
    ap (replaced (Ok tt)) c.replace.ensures ∙ replace_inside c.args.rows.now c.args.place c.args.r c.if-place-length.true

pub returns : goal.returns
returns c = replace_beyond c.args.rows.now c.args.place c.args.r c.if-place-length.false
