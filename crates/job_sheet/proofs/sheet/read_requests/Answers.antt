use Rattle.std.proofs.Common.{◌≡◌, arith, length, refl}
use borrow.Author.Rules.{rules}
use Rattle.job_sheet.specs.Sheets.{no_request}
use Rattle.job_sheet.specs.Reading.{request_at, request_fits, request_place, every, up_to}
use Rattle.job_sheet.proofs.FewLaws.{few_none}
use Rattle.job_sheet.proofs.ReadCases.{good_few, good_more, good_not}
use Rattle.job_sheet.proofs.sheet.read_requests.Goals as goal

pub loop-i-init : goal.loop-i-init
unfolding every up_to
loop-i-init c =
    let whole : length c.new-requests.result.row ≡ 64 = search rules in
    (few_none 64 no_request _ c.new-requests.ensures.whole whole, refl)

pub returns-in_err-read_request : goal.returns-in_err-read_request
returns-in_err-read_request c =
    rw c.from_residual.ensures
    (good_not 64 no_request (λ i. request_fits c.args.bytes.now c.args.endpoints.now (request_place (length c.args.endpoints.now) i)) (λ i. request_at c.args.bytes.now (request_place (length c.args.endpoints.now) i)) _ c.loop-i.i c.loop-i-test.true c.in_err-read_request.ensures)

pub push-requires : goal.push-requires
push-requires c =
    let few = good_few 64 no_request (λ i. request_fits c.args.bytes.now c.args.endpoints.now (request_place (length c.args.endpoints.now) i)) (λ i. request_at c.args.bytes.now (request_place (length c.args.endpoints.now) i)) _ c.loop-i.i c.loop-i.invariant in
    omega (arith, few)

pub loop-i-preserved : goal.loop-i-preserved
loop-i-preserved c =
    good_more 64 no_request (λ i. request_fits c.args.bytes.now c.args.endpoints.now (request_place (length c.args.endpoints.now) i)) (λ i. request_at c.args.bytes.now (request_place (length c.args.endpoints.now) i)) _ _ c.loop-i.i _ (omega arith) c.loop-i.invariant c.in_ok-read_request.ensures c.push.ensures.whole
