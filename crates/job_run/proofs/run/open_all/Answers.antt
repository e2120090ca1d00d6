use Rattle.std.proofs.Common.{◌≡◌, ◌∙◌, ap, arith, get_or, length, List, refl}
use Rattle.job_sheet.specs.declared.record.EndpointRecord.{EndpointRecord}
use Rattle.job_sheet.specs.Few.{items}
use Rattle.job_sheet.specs.Sheets.{no_endpoint}
use Rattle.job_run.specs.Plain.{Ran}
use Rattle.job_run.specs.Runs.{opened_to}
use Rattle.job_run.specs.Words.{ran_view}
use Rattle.text.proofs.LineLaws.{get_d_any}
use Rattle.job_run.proofs.Cases.{opened_count, open_turn}
use Rattle.job_run.proofs.run.open_all.Goals as goal

pub loop-e-init : goal.loop-e-init
unfolding opened_to
loop-e-init c = refl

pub open_step-requires : goal.open_step-requires
open_step-requires c =
    let l = c.loop-e in
    let many = ap (λ (r : Ran). length r.opened) l.invariant ∙ opened_count l.e-index (ran_view c.args.ran.now) c.args.job.now in
    omega (arith, many, c.as_slice-endpoints.ensures.fits)

pub loop-e-preserved : goal.loop-e-preserved
loop-e-preserved c =
    let l = c.loop-e in
    let item =
    get_d_any c.as_slice-endpoints.result.now l.e-index _ no_endpoint (omega arith)
    ∙ ap (λ (xs : List EndpointRecord). get_or xs l.e-index no_endpoint) c.as_slice-endpoints.ensures.value in
    open_turn _ _ l.e-index _ _ _ l.invariant item c.open_step.ensures

pub returns : goal.returns
returns c =
    let l = c.loop-e in
    let all : l.e-index ≡ length (items c.args.job.now.endpoints) = omega (arith, ap length c.as_slice-endpoints.ensures.value) in
    rw (← all) l.invariant
