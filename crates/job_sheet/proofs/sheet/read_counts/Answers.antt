use native.Mathlib.Omega.{arith}
use Rattle.job_sheet.proofs.ReadCases.{counts_are, counts_none, counts_not}
use Rattle.job_sheet.proofs.sheet.read_counts.Goals as goal

pub returns-then-bytes-lt4 : goal.returns-then-bytes-lt4
returns-then-bytes-lt4 c = counts_none _ (λ z. omega (arith, z.whole))

pub returns-then-bytes-middle : goal.returns-then-bytes-middle
returns-then-bytes-middle c = counts_none _ (λ z. omega (arith, z.whole, c.number16-endpoints.ensures))

pub returns-then-bytes-whole : goal.returns-then-bytes-whole
returns-then-bytes-whole c =
    counts_are _ _ _ c.number16-endpoints.ensures c.number16-requests.ensures c.if-endpoints-le8.true c.if-requests-le64.true c.if-bytes-whole.true

pub returns-else-endpoints-le8 : goal.returns-else-endpoints-le8
returns-else-endpoints-le8 c =
    counts_not _ _ _ c.number16-endpoints.ensures c.number16-requests.ensures (λ few some whole. omega arith)
