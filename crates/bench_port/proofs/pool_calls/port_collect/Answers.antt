use Rattle.bench_port.specs.Border.{collect_of}
use Rattle.bench_port.proofs.DoorLaws.{seen_rows, words_after}
use Rattle.bench_port.proofs.pool_calls.port_collect.Goals as goal

pub returns-clause-setups_after : goal.returns-clause-setups_after
returns-clause-setups_after c =
    let a = c.args in
    let d = c.apply-reply in
    seen_rows a.core a.slots.now d.result c.pack_reply.result c.pack_reply.ensures d.new.slots a.rows.now a.heads.now a.frames.now a.setups.now
    c.collect_call-call.result (collect_of a.slot a.id a.command a.frame a.overlay) d.new.rows d.new.heads d.new.frames d.new.setups c.collect_call-call.ensures d.ensures.setups_after

pub returns-clause-words_after : goal.returns-clause-words_after
returns-clause-words_after c =
    let a = c.args in
    let d = c.apply-reply in
    words_after a.core a.slots.now d.result c.pack_reply.result c.pack_reply.ensures d.new.slots _ d.ensures.words_after
