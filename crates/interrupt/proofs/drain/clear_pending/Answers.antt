use Rattle.interrupt.proofs.Cases.{take_port, take_activity, take_rest}
use Rattle.interrupt.proofs.drain.clear_pending.Goals as goal

pub returns-then-any_of : goal.returns-then-any_of
returns-then-any_of c = search take_port

pub returns-then-any_of-2 : goal.returns-then-any_of-2
returns-then-any_of-2 c = search take_activity

pub returns : goal.returns
returns c = search take_rest
