use Rattle.text.proofs.LineLaws.{lines_most, lines_none, lines_turn}
use Rattle.std.specs.Prelude.{◌≡◌, ℕ, List, length}
use mathlib.Core.Path.{refl, ◌∙◌}
use native.Mathlib.Omega.{arith}
use Rattle.call_log.specs.Changes.{frame_change}
use Rattle.call_log.proofs.ChangeCases.{first_turn, first_zero, frame_most, frame_said}
use Rattle.call_log.proofs.frames.put_frames.Goals as goal

abbrev said_of : List ℕ → List ℕ → ℕ → List ℕ
said_of before after = frame_change before after

pub loop-i-init : goal.loop-i-init
loop-i-init c =
    let a = c.args in
    let none = lines_none (said_of a.before.now a.after.now) a.out.now a.at in
    (refl, none.0, none.1, first_zero a.before.now a.after.now)

pub goes_on-on-requires-clause-before_len : goal.goes_on-on-requires-clause-before_len
goes_on-on-requires-clause-before_len c = c.requires.before_len

pub run_ends-ends-requires-clause-before_len : goal.run_ends-ends-requires-clause-before_len
run_ends-ends-requires-clause-before_len c = c.requires.before_len

pub put_frame-place-requires : goal.put_frame-place-requires
put_frame-place-requires c = omega (arith, lines_most (said_of c.args.before.now c.args.after.now) 53 (frame_most c.args.before.now c.args.after.now) c.loop-i.i, c.loop-i.invariant.0, c.loop-i.invariant.2, c.requires)

pub next_first-first-requires : goal.next_first-first-requires
next_first-first-requires c = omega (arith, c.requires)

pub loop-i-preserved : goal.loop-i-preserved
loop-i-preserved c =
    let a = c.args in
    let l = c.loop-i in
    let p = c.put_frame-place in
    let b = a.before.now in
    let d = a.after.now in
    let o = c.goes_on-on in
    let e = c.run_ends-ends in
    let said = frame_said b d l.i l.first o.result o.ensures l.invariant.3 e.result e.ensures in
    let turned = lines_turn (said_of b d) a.out.now l.out p.new.out a.at l.place p.result l.i (omega (arith, c.requires)) l.invariant.1
    l.invariant.2 (p.ensures.out_after ∙ rw said) (p.ensures.value ∙ rw said) in (
      p.auto.out ∙ l.invariant.0,
      turned.0,
      turned.1,
      first_turn b d l.i l.first o.result o.ensures l.invariant.3 c.next_first-first.result c.next_first-first.ensures,
    )

pub shape_of-out : goal.shape_of-out
shape_of-out c = c.loop-i.invariant.0

pub returns : goal.returns
returns c =
    let l = c.loop-i in
    let all : l.i ≡ length c.args.after.now = omega arith in
    record { out_after = l.invariant.1 ∙ rw all; value = l.invariant.2 ∙ rw all }
