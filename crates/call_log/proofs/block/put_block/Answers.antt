use mathlib.Core.Path.{ap, ◌∙◌}
use native.Mathlib.Omega.{arith}
use Rattle.std.specs.Prelude.{length}
use Rattle.common.specs.Rows.{put_at}
use Rattle.call_log.specs.Lines.{line_bytes}
use Rattle.call_log.specs.Words.{shown_in}
use Rattle.call_log.proofs.BlockLaws.{block_fits, block_put, line_most, ports_most, rows_most}
use Rattle.call_log.proofs.WordsLaws.{block_viewed}
use borrow.Author.Rules.{rules}
use Rattle.call_log.proofs.block.put_block.Goals as goal

pub put_rows-ports-requires : goal.put_rows-ports-requires
put_rows-ports-requires c =
    let a = c.args in
    let p = c.put_line-rows in
    omega (arith, c.requires, p.ensures.value, p.auto.out, line_most a.first (search rules))

pub put_ports-rest-requires-clause-after_in_bounds : goal.put_ports-rest-requires-clause-after_in_bounds
put_ports-rest-requires-clause-after_in_bounds c =
    let a = c.args in
    let l = line_most a.first (search rules) in
    let m = rows_most a.before.now a.after.now (search rules) (search rules) in
    let p = c.put_line-rows in
    let q = c.put_rows-ports in
    omega (arith, c.requires, p.ensures.value, p.auto.out, q.ensures.value, q.auto.out)

pub put_rest-requires : goal.put_rest-requires
put_rest-requires c =
    let a = c.args in
    let l = line_most a.first (search rules) in
    let m = rows_most a.before.now a.after.now (search rules) (search rules) in
    let p = c.put_line-rows in
    let q = c.put_rows-ports in
    let u = c.put_ports-rest in
    let n = ports_most a.opening a.core.settings.ports a.before.now.ports a.after.now.ports (search rules) in
    omega (arith, c.requires, p.ensures.value, p.auto.out, q.ensures.value, q.auto.out, u.ensures.value, u.auto.out)

pub returns : goal.returns
returns c =
    let a = c.args in
    let p = c.put_line-rows in
    let q = c.put_rows-ports in
    let u = c.put_ports-rest in
    let t = c.put_rest in
    let room = block_fits (line_bytes a.first) a.opening a.before.now a.after.now a.opened a.core.settings.ports (shown_in a.core) a.writes
    (line_most a.first (search rules)) (search rules) (search rules) (search rules) (search rules) in
    let done = block_put a.out.now p.new.out q.new.out u.new.out t.new.out (line_bytes a.first) p.result q.result u.result t.result a.opening
    a.before.now a.after.now a.opened a.core.settings.ports (shown_in a.core) a.writes p.ensures.out_after (omega (arith, p.ensures.value)) q.ensures.out_after q.ensures.value u.ensures.out_after
    u.ensures.value t.ensures.out_after t.ensures.value in
    record {
      by_index = λ ws s. done.0 ∙ ap (put_at a.out.now 0) (block_viewed a.core ws (line_bytes a.first) a.opening a.before.now a.after.now a.opened a.writes s);
      by_index_2 = λ ws s. done.1 ∙ ap length (block_viewed a.core ws (line_bytes a.first) a.opening a.before.now a.after.now a.opened a.writes s);
      upper_bound = omega (arith, room, done.1, c.requires, p.auto.out, q.auto.out, u.auto.out, t.auto.out);
    }
