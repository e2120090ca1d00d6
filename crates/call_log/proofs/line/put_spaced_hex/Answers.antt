use native.Mathlib.Omega.{arith}
use Rattle.call_log.proofs.LineCases.{hex_then}
use Rattle.call_log.proofs.line.put_spaced_hex.Goals as goal

pub returns : goal.returns
returns c =
    let a = c.args in
    let p = c.put-next in
    let q = c.put_hex in
    let all = hex_then a.out.now p.new.out q.new.out a.at p.result q.result 32 a.n a.digits (omega arith) p.ensures.out_after p.ensures.value
    q.ensures.out_after q.ensures.value in
    record { out_after = all.0; value = all.1 }
