use Rattle.direct_calls.proofs.CoreCases.{core_decides, core_refuses, frames_fit, heads_fit, waited_fits}
use Rattle.direct_calls.proofs.bringing_up.bring_up_step.Goals as goal

pub returns-then-not-core_good : goal.returns-then-not-core_good
returns-then-not-core_good c = search core_refuses

pub step-requires-clause-waited_bound : goal.step-requires-clause-waited_bound
step-requires-clause-waited_bound c = search (waited_fits, frames_fit, heads_fit)

pub step-requires-clause-frames_bound : goal.step-requires-clause-frames_bound
step-requires-clause-frames_bound c = search (waited_fits, frames_fit, heads_fit)

pub returns : goal.returns
returns c = search core_decides
