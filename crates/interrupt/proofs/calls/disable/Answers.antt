use Rattle.interrupt.proofs.WordsCases.{disabled_done}
use Rattle.interrupt.proofs.calls.disable.Goals as goal

pub returns-clause-by_index : goal.returns-clause-by_index
returns-clause-by_index c = search disabled_done

pub returns-clause-free_value : goal.returns-clause-free_value
returns-clause-free_value c = search disabled_done
