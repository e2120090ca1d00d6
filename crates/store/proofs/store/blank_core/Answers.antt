use Rattle.store.proofs.StoreCases.{zeros_refused}
use Rattle.store.proofs.store.blank_core.Goals as goal

pub returns : goal.returns
returns c = zeros_refused c.default.result c.default.ensures _ _ _ _ _ c.decide_open-refused.ensures
