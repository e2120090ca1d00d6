use Rattle.pipe.proofs.EndpointCases.{encode_closed, encode_idle, encode_linked, encode_unlinking}
use Rattle.pipe.proofs.endpoints.encode.Goals as goal

pub returns-in-Closed : goal.returns-in-Closed
returns-in-Closed c = search encode_closed

pub returns-in-Idle : goal.returns-in-Idle
returns-in-Idle c = search encode_idle

pub returns-in-Linked : goal.returns-in-Linked
returns-in-Linked c = search encode_linked

pub returns-in-Unlinking : goal.returns-in-Unlinking
returns-in-Unlinking c = search encode_unlinking
