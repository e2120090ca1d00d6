use Rattle.call_log.proofs.CallLineCases.{step_said}
use mathlib.Core.Path.{◌∙◌}
use Rattle.call_log.specs.CallLine.{call_line, step_line}
use Rattle.call_log.specs.Lines.{said_line, line_of}
use Rattle.call_log.proofs.call_line.given_line.Goals as goal

pub returns-in-Nothing : goal.returns-in-Nothing
unfolding said_line line_of call_line step_line
returns-in-Nothing c = rw c.in-Nothing.is c.bare_line.ensures

pub returns-in-Slot : goal.returns-in-Slot
unfolding said_line line_of call_line step_line
returns-in-Slot c = rw c.in-Slot.is c.line_with_one.ensures

pub returns-in-Address : goal.returns-in-Address
unfolding said_line line_of call_line step_line
returns-in-Address c = rw c.in-Address.is c.line_with_one-in-Address.ensures

pub returns-in-Id : goal.returns-in-Id
unfolding said_line line_of call_line step_line
returns-in-Id c = rw c.in-Id.is c.line_with_one-in-Id.ensures

pub returns-in-Length : goal.returns-in-Length
unfolding said_line line_of call_line step_line
returns-in-Length c = rw c.in-Length.is c.line_with_two.ensures

pub returns-in-No : goal.returns-in-No
unfolding said_line line_of call_line step_line
returns-in-No c = rw c.in-No.is c.line_with_one-in-No.ensures

pub returns-in-Yes : goal.returns-in-Yes
unfolding said_line line_of call_line step_line
returns-in-Yes c = rw c.in-Yes.is c.line_with_one-in-Yes.ensures

pub returns-in-Event : goal.returns-in-Event
unfolding said_line line_of call_line step_line
returns-in-Event c =
    rw (c.in-Event.is, ← c.event_number.ensures, ← c.event_value.ensures) c.line_with_two-in-Event.ensures

pub returns-in-Next : goal.returns-in-Next
unfolding step_line
returns-in-Next c =
    let s = c.step_line in
    rw c.in-Next.is (s.ensures ∙ step_said _ _ _ 0 0 c.in-Next.read _ c.register_part.ensures)
