use Rattle.std.proofs.Common.{◌<◌, arith, length, refl, ◌∙◌}
use lib.ListN.{length-set}
use Rattle.bitset.specs.Places.{set_places}
use Rattle.bitset.specs.Rest.{rest_of}
use Rattle.pool.specs.Plain as Deeds
use Rattle.pool.proofs.WordTurns.{counted, fewer, filled_end, filled_on, here_in, more_on, more_stops, none_yet, rest_in, set_few, turn_good}
use Rattle.pool.proofs.laying.lay_kind.Goals as goal

pub next_record-r-requires-clause-turn : goal.next_record-r-requires-clause-turn
next_record-r-requires-clause-turn g c =
    let some = more_on _ _ c.more.ensures c.loop-l-test.true in
    let count = counted c.loop-l.at c.advance-at.result c.place_at-place.result some c.place_at-place.ensures.0 c.advance-at.ensures.1 c.loop-l.k _ c.loop-l.invariant.counted in
    let rest = rest_in c.loop-l.at c.advance-at.result c.place_at-place.result some c.place_at-place.ensures.0 c.advance-at.ensures.1 _ c.loop-l.invariant.within in
    let below : c.loop-l.k < length (set_places c.args.l.places) = omega (arith, count) in
    turn_good (length c.args.rows.now) c.args.l c.loop-l.k (rest_of c.advance-at.result) below rest c.requires.laying

pub replace-requires : goal.replace-requires
replace-requires g c =
    let some = more_on _ _ c.more.ensures c.loop-l-test.true in
    let here = here_in c.loop-l.at c.advance-at.result c.place_at-place.result some c.place_at-place.ensures.0 c.advance-at.ensures.1 _ c.loop-l.invariant.within in
    rw c.loop-l.invariant.long here

pub overflow_add-k : goal.overflow_add-k
overflow_add-k g c =
    let some = more_on _ _ c.more.ensures c.loop-l-test.true in
    let count = counted c.loop-l.at c.advance-at.result c.place_at-place.result some c.place_at-place.ensures.0 c.advance-at.ensures.1 c.loop-l.k _ c.loop-l.invariant.counted in
    omega (arith, count, set_few c.args.l.places)

pub loop-l-preserved : goal.loop-l-preserved
loop-l-preserved g c =
    let some = more_on _ _ c.more.ensures c.loop-l-test.true in
    let p = c.place_at-place.result in
    let ep = c.place_at-place.ensures.0 in
    let ed = c.advance-at.ensures.1 in
    record {
      long = rw c.replace.ensures (length-set c.loop-l.rows p c.next_record-r.result ∙ c.loop-l.invariant.long);
      counted = counted c.loop-l.at c.advance-at.result p some ep ed c.loop-l.k _ c.loop-l.invariant.counted;
      within = rest_in c.loop-l.at c.advance-at.result p some ep ed _ c.loop-l.invariant.within;
      whole = rw c.replace.ensures
          (filled_on c.loop-l.at c.advance-at.result p some ep ed (Deeds.Transfer c.args.l.transfer) c.args.l.base c.loop-l.k c.loop-l.rows _ c.loop-l.invariant.whole
          c.next_record-r.result c.next_record-r.ensures);
    }

pub returns : goal.returns
returns g c =
    filled_end c.loop-l.at (Deeds.Transfer c.args.l.transfer) c.args.l.base c.loop-l.k c.loop-l.rows _ (more_stops _ _ c.more.ensures c.loop-l-test.false) c.loop-l.invariant.whole
