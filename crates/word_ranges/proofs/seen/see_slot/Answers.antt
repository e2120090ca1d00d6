use borrow.Author.Rules.{rules}
use Rattle.word_ranges.proofs.SeenCases.{largest_fits, slot_busy, slot_empty}
use Rattle.word_ranges.proofs.seen.see_slot.Goals as goal

pub returns-then-phase-lt2 : goal.returns-then-phase-lt2
returns-then-phase-lt2 c = search slot_empty

pub returns : goal.returns
returns c = search slot_busy
