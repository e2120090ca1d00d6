use Rattle.controller.proofs.WordsCases.{address_next, address_none}
use Rattle.controller.proofs.calls.allocate_address.Goals as goal

pub returns-then-address-gt127-clause-by_index : goal.returns-then-address-gt127-clause-by_index
returns-then-address-gt127-clause-by_index c = search address_none

pub returns-clause-by_index : goal.returns-clause-by_index
returns-clause-by_index c = search address_next
