use Rattle.bench_port.proofs.pool_calls.submit_call.Goals as goal

pub returns : goal.returns
returns c = rw (c.kind_of.ensures, c.direction_of.ensures)
