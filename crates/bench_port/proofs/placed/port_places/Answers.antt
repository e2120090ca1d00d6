use Rattle.bench_port.proofs.placed.port_places.Goals as goal

pub returns : goal.returns
returns c = rw c.request_places.ensures
