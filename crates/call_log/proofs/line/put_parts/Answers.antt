use Rattle.call_log.proofs.LineCases.{parts_most, parts_none, parts_turn}
use Rattle.std.specs.Prelude.{◌≡◌, ◌+◌, length, take}
use mathlib.Core.Path.{refl, ◌∙◌}
use lib.Seq.{take-length}
use native.Mathlib.Omega.{arith}
use Rattle.call_log.proofs.line.put_parts.Goals as goal

pub loop-part-init : goal.loop-part-init
loop-part-init c =
    let a = c.args in
    let none = parts_none a.out.now a.at a.parts.now in
    (refl, omega arith, none.0, none.1)

pub loop-part-preserved : goal.loop-part-preserved
loop-part-preserved c =
    let a = c.args in
    let l = c.loop-part in
    let p = c.put_part-place in
    let turned = parts_turn a.out.now l.out p.new.out a.at l.place p.result l.part-index a.parts.now _ (omega arith) (omega arith) l.invariant.2 l.invariant.3 p.ensures.out_after p.ensures.value in
    (p.auto.out ∙ l.invariant.0, omega (arith, turned.1, parts_most (l.part-index + 1) a.parts.now (l.part-index + 1) (omega arith)), turned.0, turned.1)

pub shape_of-out : goal.shape_of-out
shape_of-out c = c.loop-part.invariant.0

pub returns : goal.returns
returns c =
    let l = c.loop-part in
    let all : l.part-index ≡ length c.args.parts.now = omega arith in
    let whole : take l.part-index c.args.parts.now ≡ c.args.parts.now = rw all (take-length _) in
    record { out_after = l.invariant.2 ∙ rw whole; value = l.invariant.3 ∙ rw whole }
