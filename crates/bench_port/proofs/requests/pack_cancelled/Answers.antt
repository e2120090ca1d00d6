use Rattle.bench_port.proofs.Packs.{answered}
use Rattle.bench_port.proofs.requests.pack_cancelled.Goals as goal

pub returns : goal.returns
returns c = answered _ _ _ _ _ c.simple.ensures c.pack.ensures
