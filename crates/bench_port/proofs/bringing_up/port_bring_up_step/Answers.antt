use Rattle.bench_port.proofs.CoreCalls.{stepped}
use Rattle.bench_port.proofs.bringing_up.port_bring_up_step.Goals as goal

pub returns : goal.returns
returns c = stepped _ _ _ _ c.bring_up_step.ensures c.pack_brought.ensures
