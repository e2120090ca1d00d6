use Rattle.pipe.proofs.EndpointCases.{kind_control, kind_isochronous, kind_bulk, kind_interrupt}
use Rattle.pipe.proofs.endpoints.kind_of.Goals as goal

pub returns-in-0 : goal.returns-in-0
returns-in-0 c = search kind_control

pub returns-in-1 : goal.returns-in-1
returns-in-1 c = search kind_isochronous

pub returns-in-2 : goal.returns-in-2
returns-in-2 c = search kind_bulk

pub returns-in_default : goal.returns-in_default
returns-in_default c = search kind_interrupt
