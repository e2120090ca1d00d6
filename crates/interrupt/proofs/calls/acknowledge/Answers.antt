use Rattle.interrupt.proofs.WordsCases.{acknowledged_no, acknowledged_yes}
use Rattle.interrupt.proofs.calls.acknowledge.Goals as goal

pub returns-then-p-eq0-clause-by_index : goal.returns-then-p-eq0-clause-by_index
returns-then-p-eq0-clause-by_index c = search acknowledged_no

pub returns-then-p-eq0-clause-free_value : goal.returns-then-p-eq0-clause-free_value
returns-then-p-eq0-clause-free_value c = search acknowledged_no

pub returns-clause-by_index : goal.returns-clause-by_index
returns-clause-by_index c = search acknowledged_yes

pub returns-clause-free_value : goal.returns-clause-free_value
returns-clause-free_value c = search acknowledged_yes
