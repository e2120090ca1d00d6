use Rattle.std.specs.Prelude.{◌≡◌, ℕ, Bool, List, get_or}
use mathlib.Core.Path.{refl, ◌∙◌}
use native.Mathlib.Omega.{arith}
use Rattle.text.proofs.LineLaws.{lines_most, lines_none, lines_turn}
use Rattle.call_log.specs.Changes.{port_change}
use Rattle.call_log.proofs.ChangeCases.{port_most}
use Rattle.call_log.proofs.rows.put_ports.Goals as goal

abbrev said_of : Bool → List ℕ → List ℕ → ℕ → List ℕ
said_of opening before after i = port_change opening i (get_or before i 0) (get_or after i 0)

pub loop-i-init : goal.loop-i-init
loop-i-init c =
    let a = c.args in
    let none = lines_none (said_of a.opening a.before.now a.after.now) a.out.now a.at in
    (refl, none.0, none.1)

pub bounds-before-i : goal.bounds-before-i
bounds-before-i c = omega (arith, c.min-i-end.ensures, c.requires.before_len)

pub bounds-after-i : goal.bounds-after-i
bounds-after-i c = omega (arith, c.min-i-end.ensures)

pub put_port-place-requires : goal.put_port-place-requires
put_port-place-requires c =
    let a = c.args in
    let l = c.loop-i in
    record {
      i_bound = omega (arith, c.min-i-end.ensures, c.requires.after_len_bound);
      at_in_bounds = omega (
        arith,
        c.min-i-end.ensures,
        lines_most (said_of a.opening a.before.now a.after.now) 44 (λ i. port_most _ i _ _) l.i,
        l.invariant.0,
        l.invariant.2,
        c.requires,
      );
    }

pub loop-i-preserved : goal.loop-i-preserved
loop-i-preserved c =
    let a = c.args in
    let l = c.loop-i in
    let p = c.put_port-place in
    let turned = lines_turn (said_of a.opening a.before.now a.after.now) a.out.now l.out p.new.out a.at l.place p.result l.i
    (omega (arith, c.requires)) l.invariant.1 l.invariant.2 p.ensures.out_after p.ensures.value in
    (p.auto.out ∙ l.invariant.0, turned.0, turned.1)

pub shape_of-out : goal.shape_of-out
shape_of-out c = c.loop-i.invariant.0

pub returns : goal.returns
returns c =
    let l = c.loop-i in
    let done : l.i ≡ c.min-i-end.result = omega arith in
    let all = done ∙ c.min-i-end.ensures in
    record { out_after = l.invariant.1 ∙ rw all; value = l.invariant.2 ∙ rw all }
