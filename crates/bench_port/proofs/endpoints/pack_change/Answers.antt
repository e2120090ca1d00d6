use Rattle.bench_port.proofs.Packs.{answered_with}
use Rattle.bench_port.proofs.endpoints.pack_change.Goals as goal

pub returns : goal.returns
returns c = answered_with _ _ _ _ _ _ c.simple.ensures c.none.ensures.value c.pack.ensures
