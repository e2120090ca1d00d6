use mathlib.Core.Path.{refl, ap, sym, ◌∙◌}
use Rattle.std.specs.Prelude.{Some}
use Rattle.job_sheet.specs.declared.record.RequestRecord.{RequestRecord}
use Rattle.job_sheet.specs.Reading.{request_at}
use Rattle.job_sheet.proofs.ReadCases.{direction_bad, may_set_up, no_setup, request_is, setup_bad}
use Rattle.job_sheet.proofs.record.read_request.Goals as goal
use Rattle.job_sheet.proofs.record.read_request.Goals.{else-setup-ne0-via-then-setup-ne0+else-not-is_control, else-setup-ne0-via-else-setup-ne0}

pub returns-then-direction-gt1 : goal.returns-then-direction-gt1
returns-then-direction-gt1 c = direction_bad _ _ _ _ c.number48-setup.ensures c.if-direction-gt1.true

pub returns-then-not-is_control : goal.returns-then-not-is_control
returns-then-not-is_control c =
    setup_bad _ _ _ _ c.number48-setup.ensures c.if-setup-ne0.true c.if-not-is_control.ensures

pub returns : goal.returns
unfolding request_at
returns c =
    let s = c.number48-setup in
    let read = ap (λ (r : RequestRecord). Some r) c.request_at.ensures in
    elim c.else-setup-ne0.branch [
      | else-setup-ne0-via-then-setup-ne0+else-not-is_control w ↦
          read ∙ request_is _ _ _ _ refl _ _ _ c.if-direction-gt1.false (may_set_up _ _ w.if-not-is_control.ensures) refl refl refl
      | else-setup-ne0-via-else-setup-ne0 w ↦
          read ∙ request_is _ _ _ _ refl _ _ _ c.if-direction-gt1.false (no_setup _ _ (sym s.ensures ∙ w.if-setup-ne0.false)) refl refl refl
    ]
