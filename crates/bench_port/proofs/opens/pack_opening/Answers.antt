use Rattle.bench_port.proofs.opens.pack_opening.Goals as goal

pub returns : goal.returns
returns c = rw c.number_of.ensures
