use Rattle.direct_calls.proofs.CoreCases.{core_decides, core_refuses}
use Rattle.direct_calls.proofs.interrupts.disable.Goals as goal

pub returns-then-not-core_good : goal.returns-then-not-core_good
returns-then-not-core_good c = search core_refuses

pub returns : goal.returns
returns c = search core_decides
