use Rattle.word_ranges.proofs.ScalarCases.{core_interrupt}
use Rattle.word_ranges.proofs.scalars.interrupt_good.Goals as goal

pub returns : goal.returns
returns c = core_interrupt _ _ _ _ c.without_bits-pending.ensures c.without_bits-masked.ensures
