use native.Mathlib.Omega.{arith}
use Rattle.call_log.proofs.BlockLaws.{rest_put, state_most, writes_most}
use Rattle.call_log.specs.Words.{shown_in}
use borrow.Author.Rules.{rules}
use Rattle.call_log.proofs.block.put_rest.Goals as goal

pub put_writes-last-requires : goal.put_writes-last-requires
put_writes-last-requires c =
    let a = c.args in
    let p = c.put_state-first in
    omega (arith, c.requires, p.ensures.value, p.auto.out, state_most a.opened (shown_in a.core))

pub put_end-requires : goal.put_end-requires
put_end-requires c =
    let a = c.args in
    let p = c.put_state-first in
    let q = c.put_writes-last in
    omega (arith, c.requires, p.ensures.value, p.auto.out, q.ensures.value, q.auto.out, state_most a.opened (shown_in a.core), writes_most a.writes (search rules))

pub returns : goal.returns
returns c =
    let a = c.args in
    let p = c.put_state-first in
    let q = c.put_writes-last in
    let t = c.put_end in
    let all = rest_put a.out.now p.new.out q.new.out t.new.out a.at p.result q.result t.result a.opened (shown_in a.core) a.writes
    (omega (arith, c.requires)) p.ensures.out_after p.ensures.value q.ensures.out_after q.ensures.value t.ensures.out_after t.ensures.value in
    record { out_after = all.0; value = all.1 }
