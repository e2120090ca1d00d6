use Rattle.call_log.proofs.frames.next_first.Goals as goal

pub returns-else-on : goal.returns-else-on
returns-else-on c = rw c.if-on.false
