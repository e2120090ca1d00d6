use Rattle.call_log.proofs.CallLineCases.{step_said}
use mathlib.Core.Path.{◌∙◌}
use Rattle.call_log.proofs.call_line.scan_line.Goals as goal

pub returns-in-Ok : goal.returns-in-Ok
returns-in-Ok c =
    let s = c.step_line in
    rw (c.in-Ok.is, ← c.port_event_number.ensures, ← c.event_port.ensures)
    (s.ensures ∙ step_said _ _ _ _ _ _ _ c.register_part.ensures)

pub returns-in-Err : goal.returns-in-Err
returns-in-Err c = rw (c.in-Err.is, ← c.number.ensures) c.bare_line.ensures
