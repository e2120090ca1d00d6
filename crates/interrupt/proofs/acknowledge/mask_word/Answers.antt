use Rattle.interrupt.proofs.Cases.{mask_on, mask_off}
use Rattle.interrupt.proofs.acknowledge.mask_word.Goals as goal

pub returns-then-flag : goal.returns-then-flag
returns-then-flag c = search mask_on

pub returns-else-flag : goal.returns-else-flag
returns-else-flag c = search mask_off
