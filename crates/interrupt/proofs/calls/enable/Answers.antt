use Rattle.interrupt.proofs.WordsCases.{enabled_done}
use Rattle.interrupt.proofs.calls.enable.Goals as goal

pub returns-clause-by_index : goal.returns-clause-by_index
returns-clause-by_index c = search enabled_done

pub returns-clause-free_value : goal.returns-clause-free_value
returns-clause-free_value c = search enabled_done
