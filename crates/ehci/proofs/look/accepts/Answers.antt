use Rattle.ehci.proofs.LookLaws.{accepts_are}
use Rattle.ehci.proofs.look.accepts.Goals as goal

pub returns : goal.returns
returns c = accepts_are _ _ _ _ _ _ _ _ c.rows_fit-fit.ensures c.words_good-good.ensures
