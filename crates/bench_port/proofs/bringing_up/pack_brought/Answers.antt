use Rattle.bench_port.proofs.Packs.{answered}
use Rattle.bench_port.proofs.bringing_up.pack_brought.Goals as goal

pub returns : goal.returns
returns c = answered _ _ _ _ _ c.brought_answer.ensures c.pack.ensures
