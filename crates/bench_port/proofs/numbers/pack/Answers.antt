use Rattle.bench_port.proofs.Packs.{packed}
use Rattle.bench_port.proofs.numbers.pack.Goals as goal

pub returns : goal.returns
returns c = packed _ _ _ _ _ _ _ _ c.answered_number.ensures c.value_of.ensures c.other_of.ensures c.offsets_of.ensures c.values_of.ensures
