use Rattle.interrupt.proofs.Cases.{word_on, word_off}
use Rattle.interrupt.proofs.calls.enabled_word.Goals as goal

pub returns-then-enabled-ne0 : goal.returns-then-enabled-ne0
returns-then-enabled-ne0 c = search word_on

pub returns-else-enabled-ne0 : goal.returns-else-enabled-ne0
returns-else-enabled-ne0 c = search word_off
