use mathlib.Core.Path.{ap}
use mathlib.Core.Bool.{not}
use native.Mathlib.Omega.{arith}
use Rattle.opening.proofs.OpenCases.{fit_lengths, heads_below}
use Rattle.opening.proofs.WordsCases.{words_short, words_bad, words_rows, words_done}
use Rattle.opening.proofs.open.decide_open.Goals as goal

pub returns-then-not-slots_fit : goal.returns-then-not-slots_fit
returns-then-not-slots_fit c = search words_short

pub returns-then-not-good : goal.returns-then-not-good
returns-then-not-good c = search words_bad

pub returns-then-not-rows_fit : goal.returns-then-not-rows_fit
returns-then-not-rows_fit c = words_rows _ _ _ _ _ _ _ c.slots_fit.ensures _ c.good.ensures _ c.rows_fit.ensures
    (ap not c.if-not-slots_fit.false) (ap not c.if-not-good.false) (ap not c.if-not-rows_fit.true) _ c.refuse-then-not-rows_fit.ensures

pub open_heads-requires : goal.open_heads-requires
open_heads-requires c = let a = c.args in
    let good = c.good.ensures in record {
      area_bound =
          heads_below _ _ good (ap not c.if-not-good.false);
      in_bounds = omega (
        arith,
        (fit_lengths a.settings a.pool a.heads.now a.frames.now a.setups.now c.good.result
            good c.rows_fit.result c.rows_fit.ensures (ap not c.if-not-rows_fit.false)).0,
      );
    }

pub returns : goal.returns
returns c = words_done _ _ _ _ _ _ _ c.slots_fit.ensures _ c.good.ensures _ c.rows_fit.ensures
    (ap not c.if-not-slots_fit.false) (ap not c.if-not-good.false) (ap not c.if-not-rows_fit.false) _ _ _ _ _
    c.fill.ensures c.open_heads.ensures c.fill-2.ensures c.fill-3.ensures c.accept.ensures
