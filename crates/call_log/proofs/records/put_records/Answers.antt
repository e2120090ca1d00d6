use borrow.Author.Rules.{rules}
use Rattle.common.specs.Rows.{put_at}
use Rattle.text.proofs.LineLaws.{lines_most, lines_none, lines_turn}
use Rattle.std.specs.Prelude.{◌≡◌, ℕ, ◌+◌, List, length, get_or}
use mathlib.Core.Path.{refl, ap, ◌∙◌}
use native.Mathlib.Omega.{arith}
use Rattle.descriptor.specs.declared.qtd.QueueTransferDescriptor.{QueueTransferDescriptor}
use Rattle.pool.specs.Chains.{blank}
use Rattle.call_log.specs.Changes.{record_change}
use Rattle.call_log.proofs.ChangeCases.{record_any, record_most}
use Rattle.call_log.proofs.records.put_records.Goals as goal

abbrev said_of : List QueueTransferDescriptor → List QueueTransferDescriptor → ℕ → List ℕ
said_of before after i = record_change i (get_or before i blank) (get_or after i blank)

pub loop-i-init : goal.loop-i-init
loop-i-init c =
    let a = c.args in
    let none = lines_none (said_of c.args.before.now c.args.after.now) a.out.now a.at in
    (refl, none.0, none.1)

pub put_record-place-requires : goal.put_record-place-requires
put_record-place-requires c = omega (arith, lines_most (said_of c.args.before.now c.args.after.now) 140 (λ i. record_most i _ _) c.loop-i.i, c.loop-i.invariant.0, c.loop-i.invariant.2, c.requires)

pub loop-i-preserved : goal.loop-i-preserved
loop-i-preserved c =
    let a = c.args in
    let l = c.loop-i in
    let p = c.put_record-place in
    let some : length a.before.now ≡ 257 = search rules in
    let more : length a.after.now ≡ 257 = search rules in
    let said = record_any a.before.now a.after.now l.i _ _ (omega arith) (omega arith) in
    let turned = lines_turn (said_of a.before.now a.after.now) a.out.now l.out p.new.out a.at l.place p.result l.i (omega (arith, c.requires))
    l.invariant.1 l.invariant.2 (p.ensures.out_after ∙ ap (put_at l.out l.place) said) (p.ensures.value ∙ ap (λ (x : List ℕ). l.place + length x) said) in
    (p.auto.out ∙ l.invariant.0, turned.0, turned.1)

pub shape_of-out : goal.shape_of-out
shape_of-out c = c.loop-i.invariant.0

pub returns : goal.returns
returns c =
    let l = c.loop-i in
    let all : l.i ≡ 257 = omega arith in
    record { out_after = l.invariant.1 ∙ rw all; value = l.invariant.2 ∙ rw all }
