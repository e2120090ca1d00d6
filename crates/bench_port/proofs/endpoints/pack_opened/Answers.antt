use Rattle.bench_port.proofs.Packs.{answered_with}
use Rattle.bench_port.proofs.endpoints.pack_opened.Goals as goal

pub returns : goal.returns
returns c = answered_with _ _ _ _ _ _ c.opened_answer.ensures c.none.ensures.value c.pack.ensures
