use Rattle.interrupt.proofs.Cases.{writes_once, writes_again}
use Rattle.interrupt.proofs.acknowledge.acknowledge_writes.Goals as goal

pub returns-then-flag-again : goal.returns-then-flag-again
returns-then-flag-again c = writes_once _ _ _ _ _ _ _ _ c.none.ensures.value c.and_then.ensures.value c.mask_word.ensures c.and_then-writes.ensures.value c.if-flag-again.true

pub returns : goal.returns
returns c = writes_again _ _ _ _ _ _ _ _ c.none.ensures.value c.and_then.ensures.value c.mask_word.ensures c.and_then-writes.ensures.value c.if-flag-again.false _ _ c.mask_word-2.ensures c.and_then-2.ensures.value
