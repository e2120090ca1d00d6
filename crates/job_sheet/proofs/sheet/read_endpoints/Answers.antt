use Rattle.std.proofs.Common.{◌≡◌, arith, length, refl}
use borrow.Author.Rules.{rules}
use Rattle.job_sheet.specs.Sheets.{no_endpoint}
use Rattle.job_sheet.specs.Reading.{endpoint_at, endpoint_fits, endpoint_place, every, up_to}
use Rattle.job_sheet.proofs.FewLaws.{few_none}
use Rattle.job_sheet.proofs.ReadCases.{good_few, good_more, good_not}
use Rattle.job_sheet.proofs.sheet.read_endpoints.Goals as goal

pub loop-i-init : goal.loop-i-init
unfolding every up_to
loop-i-init c =
    let whole : length c.new-endpoints.result.row ≡ 8 = search rules in
    (few_none 8 no_endpoint _ c.new-endpoints.ensures.whole whole, refl)

pub returns-in_err-read_endpoint : goal.returns-in_err-read_endpoint
returns-in_err-read_endpoint c =
    rw c.from_residual.ensures
    (good_not 8 no_endpoint (λ i. endpoint_fits c.args.bytes.now (endpoint_place i)) (λ i. endpoint_at c.args.bytes.now (endpoint_place i)) _ c.loop-i.i c.loop-i-test.true c.in_err-read_endpoint.ensures)

pub push-requires : goal.push-requires
push-requires c =
    let few = good_few 8 no_endpoint (λ i. endpoint_fits c.args.bytes.now (endpoint_place i)) (λ i. endpoint_at c.args.bytes.now (endpoint_place i)) _ c.loop-i.i c.loop-i.invariant in
    omega (arith, few)

pub loop-i-preserved : goal.loop-i-preserved
loop-i-preserved c =
    good_more 8 no_endpoint (λ i. endpoint_fits c.args.bytes.now (endpoint_place i)) (λ i. endpoint_at c.args.bytes.now (endpoint_place i)) _ _ c.loop-i.i _ (omega arith) c.loop-i.invariant c.in_ok-read_endpoint.ensures c.push.ensures.whole
