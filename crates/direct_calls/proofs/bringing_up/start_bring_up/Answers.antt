use Rattle.direct_calls.proofs.SlotsCases.{slots_good_lem, slots_kept, slots_refuses}
use Rattle.direct_calls.proofs.bringing_up.start_bring_up.Goals as goal

pub returns-then-not-words_good : goal.returns-then-not-words_good
returns-then-not-words_good c = search slots_refuses

pub start-requires : goal.start-requires
start-requires c = search slots_good_lem

pub returns : goal.returns
returns c = search slots_kept
