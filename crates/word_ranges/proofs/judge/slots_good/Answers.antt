use native.Mathlib.Omega.{arith}
use Rattle.word_ranges.proofs.JudgeCases.{seen_done, seen_start, seen_turn}
use Rattle.word_ranges.proofs.judge.slots_good.Goals as goal

pub loop-k-preserved : goal.loop-k-preserved
loop-k-preserved c = let l = c.loop-k in
    seen_turn _ _ _ _ _ _ l.k l.s _ _ c.places_at.ensures _ (omega arith) c.bounds_for-bounds.ensures
    c.sizes_for-sizes.ensures c.see_slot-s.ensures l.invariant

pub returns : goal.returns
returns c = search seen_done
