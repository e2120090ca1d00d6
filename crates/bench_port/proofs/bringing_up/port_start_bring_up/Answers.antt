use Rattle.bench_port.proofs.RowCalls.{started}
use Rattle.bench_port.proofs.bringing_up.port_start_bring_up.Goals as goal

pub returns : goal.returns
returns c = started _ _ _ _ _ _ c.start_bring_up.ensures c.pack_brought.ensures
