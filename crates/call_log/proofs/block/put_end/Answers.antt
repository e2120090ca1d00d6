use native.Mathlib.Omega.{arith}
use Rattle.std.specs.Prelude.{[], ◌∷◌}
use Rattle.call_log.proofs.LineCases.{byte_then}
use Rattle.call_log.proofs.block.put_end.Goals as goal

pub returns : goal.returns
returns c =
    let a = c.args in
    let p = c.put-next in
    let q = c.put in
    let all = byte_then a.out.now p.new.out q.new.out (10 ∷ []) a.at p.result q.result 46 (omega arith) p.ensures.out_after p.ensures.value
    q.ensures.out_after q.ensures.value in
    record { out_after = all.0; value = all.1 }
