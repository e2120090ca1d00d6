use Rattle.text.proofs.LineLaws.{lines_most, lines_none, lines_turn}
use Rattle.std.specs.Prelude.{◌≡◌, ℕ, List}
use mathlib.Core.Path.{refl, ◌∙◌}
use native.Mathlib.Omega.{arith}
use Rattle.call_log.specs.Changes.{setup_change}
use Rattle.call_log.proofs.ChangeCases.{setup_most}
use Rattle.call_log.proofs.setups.put_setups.Goals as goal

abbrev said_of : List ℕ → List ℕ → ℕ → List ℕ
said_of before after = setup_change before after

pub loop-slot-init : goal.loop-slot-init
loop-slot-init c =
    let a = c.args in
    let none = lines_none (said_of c.args.before.now c.args.after.now) a.out.now a.at in
    (refl, none.0, none.1)

pub put_setup-place-requires : goal.put_setup-place-requires
put_setup-place-requires c =
    let a = c.args in
    record {
      at_in_bounds = omega (
        arith,
        lines_most (said_of a.before.now a.after.now) 40 (setup_most a.before.now a.after.now) c.loop-slot.slot,
        c.loop-slot.invariant.0,
        c.loop-slot.invariant.2,
        c.requires,
      );
      slot_in_bounds = omega (arith, c.requires);
      slot_in_bounds_2 = omega (arith, c.requires);
    }

pub loop-slot-preserved : goal.loop-slot-preserved
loop-slot-preserved c =
    let a = c.args in
    let l = c.loop-slot in
    let p = c.put_setup-place in
    let turned = lines_turn (said_of c.args.before.now c.args.after.now) a.out.now l.out p.new.out a.at l.place p.result l.slot (omega (arith, c.requires)) l.invariant.1 l.invariant.2
    p.ensures.out_after p.ensures.value in
    (p.auto.out ∙ l.invariant.0, turned.0, turned.1)

pub shape_of-out : goal.shape_of-out
shape_of-out c = c.loop-slot.invariant.0

pub returns : goal.returns
returns c =
    let l = c.loop-slot in
    let all : l.slot ≡ c.args.slots = omega arith in
    record { out_after = l.invariant.1 ∙ rw all; value = l.invariant.2 ∙ rw all }
