use Rattle.word_ranges.proofs.ScalarCases.{core_scalars}
use Rattle.word_ranges.proofs.scalars.scalars_good.Goals as goal

pub returns : goal.returns
returns c = search core_scalars
