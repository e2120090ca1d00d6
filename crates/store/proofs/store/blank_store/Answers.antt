use Rattle.store.proofs.StoreCases.{blank_done, blank_tended}
use Rattle.store.proofs.store.blank_store.Goals as goal

pub invariant_of-result : goal.invariant_of-result
invariant_of-result c = record { tended = blank_tended c.blank_core.result c.blank_core.ensures }

pub returns : goal.returns
returns c = blank_done c.blank_core.result c.blank_core.ensures
