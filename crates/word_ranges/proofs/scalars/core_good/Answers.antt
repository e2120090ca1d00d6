use Rattle.word_ranges.proofs.ScalarCases.{core_not, core_rest}
use Rattle.word_ranges.proofs.scalars.core_good.Goals as goal

pub returns-then-good : goal.returns-then-good
returns-then-good c = search core_rest

pub returns-else-good : goal.returns-else-good
returns-else-good c = search core_not
