use lib.ListN.{length-take}
use native.Mathlib.Omega.{arith}
use Rattle.call_log.proofs.LineCases.{line_put, parts_most}
use borrow.Author.Rules.{rules}
use Rattle.call_log.proofs.line.put_line.Goals as goal

pub put_parts-last-requires : goal.put_parts-last-requires
put_parts-last-requires c =
    let few = length-take c.min.result c.args.line.row in
    omega (arith, few, c.min.ensures, c.requires, c.put-first.ensures.value, c.put-first.auto.out)

pub put-requires : goal.put-requires
put-requires c =
    let a = c.args in
    let p = c.put-first in
    let q = c.put_parts-last in
    let n = c.min in
    omega (arith, parts_most n.result a.line.row 14 (omega (arith, n.ensures)), q.ensures.value, q.auto.out, p.auto.out, p.ensures.value)

pub returns : goal.returns
returns c =
    let a = c.args in
    let p = c.put-first in
    let q = c.put_parts-last in
    let s = c.put in
    let all = line_put a.out.now p.new.out q.new.out s.new.out a.at p.result q.result s.result c.min.result a.line
    (search rules) c.min.ensures (omega arith)
    p.ensures.out_after p.ensures.value q.ensures.out_after q.ensures.value s.ensures.out_after s.ensures.value in
    record { out_after = all.0; value = all.1 }
