use Rattle.std.specs.Prelude.{◌≡◌, ℕ, ◌+◌, ◌<◌, List, length, get_or}
use mathlib.Core.Path.{refl, ap, ◌∙◌}
use native.Mathlib.Omega.{arith}
use borrow.Author.Rules.{rules}
use lib.ListN.{length-take}
use Rattle.std.proofs.lemmas.List.{get_or-take}
use Rattle.common.specs.Rows.{put_at}
use Rattle.register.specs.Writes.{list_of, write_of}
use Rattle.register.specs.declared.writes.Write.{Write}
use Rattle.text.proofs.LineLaws.{lines_most, lines_none, lines_turn}
use Rattle.call_log.specs.Lines.{write_line}
use Rattle.call_log.proofs.ChangeCases.{write_any, write_most}
use Rattle.call_log.proofs.writes.put_writes.Goals as goal

abbrev said_of : List Write → ℕ → List ℕ
said_of list i = write_line (get_or list i (write_of 0 0)).offset (get_or list i (write_of 0 0)).value

pub loop-write-init : goal.loop-write-init
loop-write-init c =
    let a = c.args in
    let none = lines_none (said_of a.writes.writes) a.out.now a.at in
    (refl, none.0, none.1)

pub put_line-place-requires : goal.put_line-place-requires
put_line-place-requires c =
    let l = c.loop-write in
    let six : length c.args.writes.writes ≡ 6 = search rules in
    let few = length-take c.min-count.result c.args.writes.writes in
    omega (arith, few, six, lines_most (said_of c.args.writes.writes) 14 (λ i. write_most _ _) l.write-index, c.min-count.ensures, l.invariant.0, l.invariant.2, c.requires)

pub loop-write-preserved : goal.loop-write-preserved
loop-write-preserved c =
    let a = c.args in
    let l = c.loop-write in
    let p = c.put_line-place in
    let list = a.writes.writes in
    let n = c.min-count.result in
    let few = length-take n list in
    let in_list : l.write-index < length list = omega (arith, few, c.min-count.ensures) in
    let in_count : l.write-index < n = omega (arith, few) in
    let here = ap (λ (w : Write). write_line w.offset w.value) (get_or-take n list l.write-index _ in_count) in
    let said = c.write_line.ensures ∙ here ∙ write_any list l.write-index _ in_list in
    let turned = lines_turn (said_of list) a.out.now l.out p.new.out a.at l.place p.result l.write-index (omega (arith, c.requires))
    l.invariant.1 l.invariant.2 (p.ensures.out_after ∙ ap (put_at l.out l.place) said) (p.ensures.value ∙ ap (λ (x : List ℕ). l.place + length x) said) in
    (p.auto.out ∙ l.invariant.0, turned.0, turned.1)

pub shape_of-out : goal.shape_of-out
shape_of-out c = c.loop-write.invariant.0

pub returns : goal.returns
returns c =
    let l = c.loop-write in
    let w = c.args.writes in
    let six : length w.writes ≡ 6 = search rules in
    let all : l.write-index ≡ length (list_of w) = omega (arith, c.min-count.ensures, length-take w.count w.writes, length-take c.min-count.result w.writes, six) in
    record { out_after = l.invariant.1 ∙ rw all; value = l.invariant.2 ∙ rw all }
