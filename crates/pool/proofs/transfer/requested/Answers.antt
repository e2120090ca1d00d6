use Rattle.pool.proofs.TransferCases.{asked_data, asked_none, asked_chunk}
use Rattle.pool.proofs.transfer.requested.Goals as goal

pub returns-then-k-eq1 : goal.returns-then-k-eq1
returns-then-k-eq1 c = search asked_data

pub returns-else-k-eq1 : goal.returns-else-k-eq1
returns-else-k-eq1 c = search asked_none

pub returns-in_default : goal.returns-in_default
returns-in_default c = asked_chunk _ _ _ _ _ c.in_default.not-Control c.chunk_length.ensures
