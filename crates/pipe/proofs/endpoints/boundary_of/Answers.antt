use Rattle.pipe.proofs.EndpointCases.{boundary_periodic, boundary_async}
use Rattle.pipe.proofs.endpoints.boundary_of.Goals as goal

pub returns-then-e-eq3 : goal.returns-then-e-eq3
returns-then-e-eq3 c = search boundary_periodic

pub returns-else-e-eq3 : goal.returns-else-e-eq3
returns-else-e-eq3 c = search boundary_async
