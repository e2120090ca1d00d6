use Rattle.std.proofs.Common.{ap, arith, length}
use Rattle.job_sheet.proofs.ReadCases.{all_read, counts_told, many, no_counts, no_endpoints, no_requests}
use Rattle.job_sheet.proofs.sheet.read_sheet.Goals as goal

pub returns-in_err-counts-clause-value : goal.returns-in_err-counts-clause-value
returns-in_err-counts-clause-value c = rw c.from_residual.ensures (no_counts _ c.in_err-counts.ensures)

pub read_endpoints-requires : goal.read_endpoints-requires
read_endpoints-requires c =
    let z = (counts_told _ _ c.in_ok-counts.ensures).1 in
    (z.few, omega (arith, z.whole))

pub returns-in_err-endpoints-clause-value : goal.returns-in_err-endpoints-clause-value
returns-in_err-endpoints-clause-value c =
    rw c.from_residual-in_err-endpoints.ensures (no_endpoints _ _ c.in_ok-counts.ensures c.in_err-endpoints.ensures)

pub read_requests-requires-clause-few : goal.read_requests-requires-clause-few
read_requests-requires-clause-few c =
    let z = (counts_told _ _ c.in_ok-counts.ensures).1 in
    (c.as_slice.ensures.fits, z.some)

pub read_requests-requires-clause-whole : goal.read_requests-requires-clause-whole
read_requests-requires-clause-whole c =
    let z = (counts_told _ _ c.in_ok-counts.ensures).1 in
    let n = many _ _ c.in_ok-counts.ensures _ c.in_ok-endpoints.ensures in
    omega (arith, ap length c.as_slice.ensures.value, n, z.opens, z.whole)

pub returns-in_err-requests-clause-value : goal.returns-in_err-requests-clause-value
returns-in_err-requests-clause-value c =
    let h = rw c.as_slice.ensures.value at c.in_err-requests.ensures in
    rw c.from_residual-in_err-requests.ensures (no_requests _ _ c.in_ok-counts.ensures _ c.in_ok-endpoints.ensures h)

pub returns-clause-value : goal.returns-clause-value
returns-clause-value c =
    let h = rw c.as_slice.ensures.value at c.in_ok-requests.ensures in
    all_read _ _ c.in_ok-counts.ensures _ c.in_ok-endpoints.ensures _ h
