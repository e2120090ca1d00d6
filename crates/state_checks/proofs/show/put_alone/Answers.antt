use native.Mathlib.Omega.{arith}
use borrow.Author.Rules.{rules}
use Rattle.call_log.proofs.BlockLaws.{line_most}
use Rattle.state_checks.proofs.show.put_alone.Goals as goal

pub returns : goal.returns
returns c = omega (arith, line_most c.args.line (search rules), c.put_line.ensures.value)
