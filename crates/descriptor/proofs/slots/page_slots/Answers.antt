use Rattle.descriptor.proofs.QtdCases.{empty_slots, filled_slots_lem}
use Rattle.descriptor.proofs.slots.page_slots.Goals as goal

pub returns-then-length-eq0 : goal.returns-then-length-eq0
returns-then-length-eq0 c = search empty_slots

pub returns : goal.returns
returns c = search filled_slots_lem
