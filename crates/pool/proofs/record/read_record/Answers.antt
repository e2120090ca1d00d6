use Rattle.pool.proofs.RecordCases.{read_inside, read_beyond}
use Rattle.pool.proofs.record.read_record.Goals as goal

pub returns-then-place-count : goal.returns-then-place-count
returns-then-place-count c = read_inside c.args.rows.now c.args.place c.if-place-count.true _ c.record_at.ensures

pub returns : goal.returns
returns c = read_beyond c.args.rows.now c.args.place c.if-place-count.false
