use Rattle.std.proofs.Common.{◌≤◌, arith, length}
use Rattle.pool.proofs.FoldTurns.{left_fewer, seeing_below, seeing_done, seeing_in, seeing_more, seeing_start}
use Rattle.pool.proofs.asked.fold_word.Goals as goal

pub loop-left-init : goal.loop-left-init
loop-left-init c = record { fits = c.word_at-left.type_inv; seeing = seeing_start (length c.args.rows.now) c.args.ask c.args.rows.now c.args.j c.args.before c.requires c.word_at-left.result c.word_at-left.ensures }

pub token_at-token-requires : goal.token_at-token-requires
token_at-token-requires c =
    let some : 1 ≤ c.loop-left.left = omega arith in
    seeing_in (length c.args.rows.now) c.args.ask c.args.rows.now c.args.j c.args.before c.requires c.loop-left.left c.loop-left.seen c.loop-left.invariant.seeing c.loop-left.invariant.fits some c.lowest_place-place.result c.lowest_place-place.ensures

pub see_word-seen-requires : goal.see_word-seen-requires
see_word-seen-requires c =
    let some : 1 ≤ c.loop-left.left = omega arith in (
      seeing_below (length c.args.rows.now) c.args.ask c.args.rows.now c.args.j c.args.before c.requires c.loop-left.left c.loop-left.seen c.loop-left.invariant.seeing c.loop-left.invariant.fits some,
      c.requires.short,
      c.requires.limited,
      c.loop-left.invariant.seeing.in_bounds.0,
      c.loop-left.invariant.seeing.in_bounds.1,
    )

pub loop-left-smaller : goal.loop-left-smaller
loop-left-smaller c =
    let some : 1 ≤ c.loop-left.left = omega arith in
    left_fewer (length c.args.rows.now) c.args.ask c.args.rows.now c.args.j c.args.before c.requires c.loop-left.left c.loop-left.seen c.loop-left.invariant.seeing c.loop-left.invariant.fits some c.lowest_place-place.result c.left_after-rest.result c.token_at-token.result c.see_word-seen.result
    c.lowest_place-place.ensures c.token_at-token.ensures c.see_word-seen.ensures c.left_after-rest.ensures

pub loop-left-preserved : goal.loop-left-preserved
loop-left-preserved c =
    let some : 1 ≤ c.loop-left.left = omega arith in
    record {
      fits = c.left_after-rest.type_inv;
      seeing = seeing_more (length c.args.rows.now) c.args.ask c.args.rows.now c.args.j c.args.before c.requires c.loop-left.left c.loop-left.seen c.loop-left.invariant.seeing c.loop-left.invariant.fits some c.lowest_place-place.result c.left_after-rest.result c.token_at-token.result c.see_word-seen.result
          c.lowest_place-place.ensures c.token_at-token.ensures c.see_word-seen.ensures c.left_after-rest.ensures;
    }

pub returns : goal.returns
returns c = seeing_done (length c.args.rows.now) c.args.ask c.args.rows.now c.args.j c.args.before c.requires c.loop-left.left c.loop-left.seen c.loop-left.invariant.seeing (omega arith)
