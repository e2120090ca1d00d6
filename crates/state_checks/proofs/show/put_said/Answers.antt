use native.Mathlib.Omega.{arith}
use borrow.Author.Rules.{rules}
use Rattle.call_log.proofs.BlockLaws.{line_most, writes_most}
use Rattle.state_checks.proofs.show.put_said.Goals as goal

pub put_writes-sums-requires : goal.put_writes-sums-requires
put_writes-sums-requires c =
    let line = line_most c.args.said.line (search rules) in
    omega (arith, line, c.put_line-writes.ensures.value, c.put_line-writes.auto.out)

pub put_line-requires : goal.put_line-requires
put_line-requires c =
    let line = line_most c.args.said.line (search rules) in
    let writes = writes_most c.args.said.writes (search rules) in
    omega (arith, line, writes, c.put_line-writes.ensures.value, c.put_line-writes.auto.out, c.put_writes-sums.ensures.value, c.put_writes-sums.auto.out)

pub returns : goal.returns
returns c =
    let line = line_most c.args.said.line (search rules) in
    let writes = writes_most c.args.said.writes (search rules) in
    let sums = line_most c.sums_line.result (search rules) in
    omega (arith, line, writes, sums, c.put_line-writes.ensures.value, c.put_writes-sums.ensures.value, c.put_line.ensures.value)
