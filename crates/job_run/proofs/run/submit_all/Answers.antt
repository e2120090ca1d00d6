use Rattle.std.proofs.Common.{◌≡◌, ◌∙◌, ap, arith, get_or, length, List, refl}
use Rattle.job_sheet.specs.declared.record.RequestRecord.{RequestRecord}
use Rattle.job_sheet.specs.Few.{items}
use Rattle.job_sheet.specs.Sheets.{no_request}
use Rattle.job_run.specs.Plain.{Ran}
use Rattle.job_run.specs.Runs.{submitted_to}
use Rattle.job_run.specs.Words.{ran_view}
use Rattle.text.proofs.LineLaws.{get_d_any}
use Rattle.job_run.proofs.Cases.{submitted_count, submit_turn}
use Rattle.job_run.proofs.run.submit_all.Goals as goal

pub loop-t-init : goal.loop-t-init
unfolding submitted_to
loop-t-init c = refl

pub submit_step-requires : goal.submit_step-requires
submit_step-requires c =
    let l = c.loop-t in
    let many = ap (λ (r : Ran). length r.submitted) l.invariant ∙ submitted_count l.t-index (ran_view c.args.ran.now) c.args.job.now in
    omega (arith, many, c.as_slice-requests.ensures.fits)

pub loop-t-preserved : goal.loop-t-preserved
loop-t-preserved c =
    let l = c.loop-t in
    let item =
    get_d_any c.as_slice-requests.result.now l.t-index _ no_request (omega arith)
    ∙ ap (λ (xs : List RequestRecord). get_or xs l.t-index no_request) c.as_slice-requests.ensures.value in
    submit_turn _ _ l.t-index _ _ _ l.invariant item c.submit_step.ensures

pub returns : goal.returns
returns c =
    let l = c.loop-t in
    let all : l.t-index ≡ length (items c.args.job.now.requests) = omega (arith, ap length c.as_slice-requests.ensures.value) in
    rw (← all) l.invariant
