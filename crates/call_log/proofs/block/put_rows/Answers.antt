use native.Mathlib.Omega.{arith}
use Rattle.call_log.proofs.BlockLaws.{frames_most, heads_most, records_most, rows_put}
use borrow.Author.Rules.{rules}
use Rattle.call_log.proofs.block.put_rows.Goals as goal

pub put_heads-frames-requires-clause-after_in_bounds : goal.put_heads-frames-requires-clause-after_in_bounds
put_heads-frames-requires-clause-after_in_bounds c =
    let a = c.args in
    omega (arith, c.requires, c.put_records-heads.ensures.value, c.put_records-heads.auto.out, records_most a.before.now a.after.now)

pub put_frames-setups-requires-clause-after_in_bounds : goal.put_frames-setups-requires-clause-after_in_bounds
put_frames-setups-requires-clause-after_in_bounds c =
    let a = c.args in
    omega (arith, c.requires, c.put_heads-frames.ensures.value, c.put_heads-frames.auto.out, c.put_records-heads.ensures.value, c.put_records-heads.auto.out, records_most a.before.now a.after.now, heads_most a.before.now.heads a.after.now.heads (search rules))

pub put_setups-requires-clause-slots_in_bounds_3 : goal.put_setups-requires-clause-slots_in_bounds_3
put_setups-requires-clause-slots_in_bounds_3 c =
    let a = c.args in
    omega (arith, c.requires, c.put_frames-setups.ensures.value, c.put_frames-setups.auto.out, c.put_heads-frames.ensures.value, c.put_heads-frames.auto.out, c.put_records-heads.ensures.value, c.put_records-heads.auto.out, records_most a.before.now a.after.now, heads_most a.before.now.heads a.after.now.heads (search rules), frames_most a.before.now.frames a.after.now.frames (search rules))

pub returns : goal.returns
returns c =
    let a = c.args in
    let p = c.put_records-heads in
    let q = c.put_heads-frames in
    let s = c.put_frames-setups in
    let t = c.put_setups in
    let all = rows_put a.out.now p.new.out q.new.out s.new.out t.new.out a.at p.result q.result s.result t.result a.before.now a.after.now
    (omega (arith, c.requires)) p.ensures.out_after p.ensures.value q.ensures.out_after q.ensures.value s.ensures.out_after s.ensures.value t.ensures.out_after t.ensures.value in
    record { out_after = all.0; value = all.1 }
