use mathlib.Core.Path.{refl, ap, ◌∙◌}
use Rattle.std.specs.Prelude.{Some}
use Rattle.job_sheet.specs.declared.record.EndpointRecord.{EndpointRecord}
use Rattle.job_sheet.specs.Reading.{endpoint_at}
use Rattle.job_sheet.proofs.ReadCases.{endpoint_is, kind_bad, zero_bad}
use Rattle.job_sheet.proofs.record.read_endpoint.Goals as goal
use Rattle.job_sheet.proofs.record.read_endpoint.Goals.{then-kind-gt-KIND_MAX-via-then-kind-gt-KIND_MAX, then-kind-gt-KIND_MAX-via-else-kind-gt-KIND_MAX+then-zero-ne0}

pub returns-then-kind-gt-KIND_MAX : goal.returns-then-kind-gt-KIND_MAX
returns-then-kind-gt-KIND_MAX c =
    elim c.then-kind-gt-KIND_MAX.branch [
      | then-kind-gt-KIND_MAX-via-then-kind-gt-KIND_MAX w ↦ kind_bad _ _ w.if-kind-gt-KIND_MAX.true
      | then-kind-gt-KIND_MAX-via-else-kind-gt-KIND_MAX+then-zero-ne0 w ↦ zero_bad _ _ w.if-zero-ne0.true
    ]

pub returns : goal.returns
unfolding endpoint_at
returns c = ap (λ (e : EndpointRecord). Some e) c.endpoint_at.ensures ∙ endpoint_is _ _ _ _ c.if-kind-gt-KIND_MAX.false c.if-zero-ne0.false refl refl
