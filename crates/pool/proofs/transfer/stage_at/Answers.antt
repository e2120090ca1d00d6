use Rattle.pool.proofs.TransferCases.{stage_setup, stage_bare, stage_data, stage_status}
use Rattle.pool.proofs.transfer.stage_at.Goals as goal

pub returns-then-k-eq0 : goal.returns-then-k-eq0
returns-then-k-eq0 c = search stage_setup

pub returns-in-None : goal.returns-in-None
returns-in-None c = search stage_bare

pub returns-then-k-eq1 : goal.returns-then-k-eq1
returns-then-k-eq1 c = search stage_data

pub returns-else-k-eq1 : goal.returns-else-k-eq1
returns-else-k-eq1 c = search stage_status
