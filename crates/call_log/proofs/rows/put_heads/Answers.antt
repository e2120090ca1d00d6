use Rattle.text.proofs.LineLaws.{lines_most, lines_none, lines_turn}
use Rattle.std.specs.Prelude.{◌≡◌, ℕ, List, length, get_or}
use mathlib.Core.Path.{refl, ◌∙◌}
use native.Mathlib.Omega.{arith}
use Rattle.call_log.specs.Changes.{head_change}
use Rattle.call_log.proofs.ChangeCases.{head_most}
use Rattle.call_log.proofs.rows.put_heads.Goals as goal

abbrev said_of : List ℕ → List ℕ → ℕ → List ℕ
said_of before after i = head_change i (get_or before i 0) (get_or after i 0)

pub loop-i-init : goal.loop-i-init
loop-i-init c =
    let a = c.args in
    let none = lines_none (said_of c.args.before.now c.args.after.now) a.out.now a.at in
    (refl, none.0, none.1)

pub put_head-place-requires : goal.put_head-place-requires
put_head-place-requires c = omega (arith, lines_most (said_of c.args.before.now c.args.after.now) 53 (λ i. head_most i _ _) c.loop-i.i, c.loop-i.invariant.0, c.loop-i.invariant.2, c.requires)

pub loop-i-preserved : goal.loop-i-preserved
loop-i-preserved c =
    let a = c.args in
    let l = c.loop-i in
    let p = c.put_head-place in
    let turned = lines_turn (said_of c.args.before.now c.args.after.now) a.out.now l.out p.new.out a.at l.place p.result l.i (omega (arith, c.requires)) l.invariant.1 l.invariant.2
    p.ensures.out_after p.ensures.value in
    (p.auto.out ∙ l.invariant.0, turned.0, turned.1)

pub shape_of-out : goal.shape_of-out
shape_of-out c = c.loop-i.invariant.0

pub returns : goal.returns
returns c =
    let l = c.loop-i in
    let all : l.i ≡ length c.args.after.now = omega arith in
    record { out_after = l.invariant.1 ∙ rw all; value = l.invariant.2 ∙ rw all }
