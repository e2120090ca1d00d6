use native.Mathlib.Omega.{arith}
use Rattle.words.specs.View.{state_of, view}
use Rattle.endpoint.proofs.WordsCases.{good_most, lowest_found, lowest_is, lowest_none, seek_ends, seek_finds, seek_goes_on, seek_starts, word_inside}
use Rattle.endpoint.proofs.lowest.lowest_closed.Goals as goal

pub loop-k-init : goal.loop-k-init
loop-k-init c = seek_starts c.args.slots.now c.args.core.settings.endpoints

pub bounds-slots-k : goal.bounds-slots-k
bounds-slots-k c = search word_inside

pub returns-then-word-eq0 : goal.returns-then-word-eq0
unfolding state_of
returns-then-word-eq0 c =
    let l = c.loop-k in
    let v = view c.args.core c.args.slots.now in
    lowest_found v l.k
    (lowest_is c.args.core.settings c.args.core.rest c.args.slots.now l.k
    (seek_finds c.args.slots.now c.args.core.settings.endpoints l.k (omega arith) (good_most _ _ _ c.requires) c.if-word-eq0.true l.invariant))
    (omega arith)

pub loop-k-preserved : goal.loop-k-preserved
loop-k-preserved c =
    let l = c.loop-k in
    seek_goes_on c.args.slots.now c.args.core.settings.endpoints l.k (omega arith) (good_most _ _ _ c.requires) c.if-word-eq0.false l.invariant

pub returns : goal.returns
unfolding state_of
returns c =
    let l = c.loop-k in
    let v = view c.args.core c.args.slots.now in
    lowest_none v l.k
    (lowest_is c.args.core.settings c.args.core.rest c.args.slots.now l.k
    (seek_ends c.args.slots.now c.args.core.settings.endpoints l.k (omega arith) l.invariant))
    (omega arith)
