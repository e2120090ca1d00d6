use Rattle.words.specs.View.{view}
use Rattle.schedule.proofs.WordsCases.{first_given, search_viewed}
use Rattle.schedule.proofs.links.find_predecessor.Goals as goal

pub returns-then-first-address : goal.returns-then-first-address
returns-then-first-address c =
    first_given (view c.args.core c.args.slots.now) c.args.heads.now c.args.frames.now c.args.k c.args.framed
    c.requires.framed_value _ _ c.first_word-first.ensures c.requires.address_value c.if-first-address.true

pub returns : goal.returns
returns c =
    search_viewed c.args.core.settings c.args.core.rest c.args.slots.now c.args.heads.now c.args.frames.now
    c.args.k c.args.framed _ _ c.requires.framed_value c.first_word-first.ensures c.requires.address_value c.if-first-address.false _
    c.search.ensures
