use native.Mathlib.Omega.{arith}
use Rattle.schedule.proofs.WordsCases.{good_most, search_ends, search_finds, search_goes_on, search_starts, word_inside}
use Rattle.schedule.proofs.links.search.Goals as goal

pub returns-then-precedes : goal.returns-then-precedes
returns-then-precedes c =
    let l = c.loop-j in
    search_finds c.args.slots.now c.args.heads.now c.args.k c.args.framed c.args.address
    c.args.core.settings.endpoints l.j _ (omega arith) (good_most _ _ _ c.requires.good) c.precedes.ensures
    c.if-precedes.true l.invariant c.args.core.settings c.args.core.rest c.requires.framed_value c.requires.address_value

pub loop-j-preserved : goal.loop-j-preserved
loop-j-preserved c =
    let l = c.loop-j in
    search_goes_on c.args.slots.now c.args.heads.now c.args.k c.args.framed c.args.address
    c.args.core.settings.endpoints l.j _ (omega arith) (good_most _ _ _ c.requires.good) c.precedes.ensures
    c.if-precedes.false l.invariant

pub returns : goal.returns
returns c =
    let l = c.loop-j in
    search_ends c.args.slots.now c.args.heads.now c.args.k c.args.framed c.args.address
    c.args.core.settings.endpoints l.j (omega arith) l.invariant c.args.core.settings c.args.core.rest
    c.requires.framed_value c.requires.address_value
