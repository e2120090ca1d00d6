use Rattle.call_log.specs.CallLine.{call_line}
use Rattle.call_log.specs.Lines.{line_of, said, said_line}
use Rattle.call_log.proofs.call_line.answer_line.Goals as goal

pub returns-in-Done : goal.returns-in-Done
returns-in-Done c = rw c.in-Done.is c.given_line.ensures

pub returns-in-Pending : goal.returns-in-Pending
returns-in-Pending c = rw c.in-Pending.is c.bare_line.ensures

pub returns-in-Cancelled : goal.returns-in-Cancelled
returns-in-Cancelled c = rw c.in-Cancelled.is c.bare_line-in-Cancelled.ensures

pub returns-in-Failed : goal.returns-in-Failed
unfolding said_line said line_of call_line
returns-in-Failed c = rw c.in-Failed.is c.line_with.ensures
