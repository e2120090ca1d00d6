use Rattle.word_ranges.proofs.ScalarCases.{core_doorbell}
use Rattle.word_ranges.proofs.scalars.doorbell_good.Goals as goal

pub returns : goal.returns
returns c = core_doorbell _ _
