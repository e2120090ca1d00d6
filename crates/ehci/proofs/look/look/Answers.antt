use Rattle.ehci.proofs.LookLaws.{looks, may_ask}
use Rattle.ehci.proofs.look.look.Goals as goal

pub asks-ask-requires : goal.asks-ask-requires
asks-ask-requires c = may_ask _ _ _ _ _ _ _ c.accepts-good.ensures

pub returns : goal.returns
returns c = looks _ _ _ _ _ _ _ c.accepts-good.ensures _ _ c.asks-ask.ensures
