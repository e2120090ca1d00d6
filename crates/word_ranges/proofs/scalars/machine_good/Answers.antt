use Rattle.word_ranges.proofs.ScalarCases.{core_machine}
use Rattle.word_ranges.proofs.scalars.machine_good.Goals as goal

pub returns : goal.returns
returns c = core_machine _ _
