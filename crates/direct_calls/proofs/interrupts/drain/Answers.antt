use Rattle.direct_calls.proofs.SlotsCases.{slots_decides, slots_good_lem, slots_refuses}
use Rattle.direct_calls.proofs.interrupts.drain.Goals as goal

pub returns-then-not-words_good : goal.returns-then-not-words_good
returns-then-not-words_good c = search slots_refuses

pub drain-requires : goal.drain-requires
drain-requires c = search slots_good_lem

pub returns : goal.returns
returns c = search slots_decides
