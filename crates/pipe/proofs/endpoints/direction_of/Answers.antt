use Rattle.pipe.proofs.EndpointCases.{direction_out, direction_in_lem}
use Rattle.pipe.proofs.endpoints.direction_of.Goals as goal

pub returns-then-number-eq0 : goal.returns-then-number-eq0
returns-then-number-eq0 c = search direction_out

pub returns-else-number-eq0 : goal.returns-else-number-eq0
returns-else-number-eq0 c = search direction_in_lem
