use Rattle.pipe.proofs.EndpointCases.{decode_idle, decode_linked, decode_unlinking, decode_closed}
use Rattle.pipe.proofs.endpoints.decode.Goals as goal

pub returns-in-1 : goal.returns-in-1
returns-in-1 c = search decode_idle

pub returns-in-2 : goal.returns-in-2
returns-in-2 c = search decode_linked

pub returns-in-3 : goal.returns-in-3
returns-in-3 c = search decode_unlinking

pub returns-in_default : goal.returns-in_default
returns-in_default c = search decode_closed
