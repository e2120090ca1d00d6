use Rattle.std.proofs.Common.{length}
use Rattle.pool.proofs.FoldTurns.{to_start, to_good, to_next, to_end}
use Rattle.pool.proofs.asked.fold_places.Goals as goal

pub loop-j-init : goal.loop-j-init
loop-j-init c = to_start (length c.args.rows.now) c.args.ask c.args.rows.now c.requires c.none_folded-seen.result c.none_folded-seen.ensures

pub fold_word-seen-requires : goal.fold_word-seen-requires
fold_word-seen-requires c = to_good (length c.args.rows.now) c.args.ask c.args.rows.now c.requires c.loop-j.j c.loop-j.seen c.loop-j.invariant c.loop-j-test.true

pub loop-j-preserved : goal.loop-j-preserved
loop-j-preserved c =
    to_next (length c.args.rows.now) c.args.ask c.args.rows.now c.requires c.loop-j.j c.loop-j.seen c.loop-j.invariant c.loop-j-test.true c.fold_word-seen.result c.fold_word-seen.ensures

pub returns : goal.returns
returns c = to_end (length c.args.rows.now) c.args.ask c.args.rows.now c.loop-j.j c.loop-j.seen c.loop-j.invariant c.loop-j-test.false
