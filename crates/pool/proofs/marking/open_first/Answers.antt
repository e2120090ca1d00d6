use Rattle.std.proofs.Common.{refl, ◌∙◌}
use lib.ListN.{length-set}
use Rattle.pool.proofs.WordTurns.{open_start, open_on_lem, open_end}
use Rattle.pool.proofs.marking.open_first.Goals as goal

pub loop-k-init : goal.loop-k-init
loop-k-init c = (refl, open_start c.args.count c.args.rows.now)

pub loop-k-preserved : goal.loop-k-preserved
loop-k-preserved c = rw c.replace.ensures (
  length-set c.loop-k.rows c.loop-k.k c.fresh_record-r.result ∙ c.loop-k.invariant.0,
  open_on_lem c.args.count c.loop-k.k c.loop-k.rows _ c.fresh_record-r.result c.loop-k-test.true c.fresh_record-r.ensures c.loop-k.invariant.1,
)

pub returns : goal.returns
returns c = open_end c.args.count c.loop-k.k _ _ c.loop-k-test.false c.loop-k.invariant.1
