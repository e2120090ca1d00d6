use Rattle.endpoint.proofs.heads.write_head.Goals as goal

pub returns : goal.returns
returns c = rw (c.put_head.ensures, c.words.ensures, c.endpoint-head.ensures)
