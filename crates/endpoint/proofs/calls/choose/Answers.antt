use mathlib.Core.Bool.{not}
use mathlib.Core.Path.{ap, ◌∙◌}
use Rattle.endpoint.proofs.WordsCases.{words_chosen, words_fields, words_kind}
use Rattle.endpoint.proofs.calls.choose.Goals as goal

pub returns-then-is_isochronous : goal.returns-then-is_isochronous
returns-then-is_isochronous c = search words_kind

pub returns-then-not-good : goal.returns-then-not-good
returns-then-not-good c = search words_fields

pub returns : goal.returns
returns c =
    c.ok_or.ensures.value
    ∙ words_chosen c.args.core.settings c.args.core.rest c.args.slots.now c.args.kind c.args.good _ _ c.is_isochronous.ensures c.lowest_closed.ensures
    c.if-is_isochronous.false (ap not c.if-not-good.false)
