use mathlib.Core.Path.{sym, ◌∙◌}
use borrow.Author.Rules.{rules}
use Rattle.std.specs.Prelude.{◌≡◌, true, false}
use Rattle.call_log.specs.Changes.{record_change, same_record}
use Rattle.call_log.specs.Lines.{record_line}
use Rattle.call_log.proofs.ChangeCases.{record_same, shows, stays}
use Rattle.call_log.proofs.records.put_record.Goals as goal

pub returns-then-eq : goal.returns-then-eq
unfolding record_change
returns-then-eq c =
    let a = c.args in
    let is = record_same a.before a.after (search rules) (search rules) (search rules) (search rules) in
    let same : same_record a.before a.after ≡ true = sym is ∙ (sym c.eq.ensures ∙ c.if-eq.true) in
    let all = stays a.out.now a.at (same_record a.before a.after) (record_line a.place a.after) same in
    record { out_after = all.0; value = all.1 }

pub returns : goal.returns
unfolding record_change
returns c =
    let a = c.args in
    let h = c.record_line-line in
    let q = c.put_line in
    let is = record_same a.before a.after (search rules) (search rules) (search rules) (search rules) in
    let other : same_record a.before a.after ≡ false = sym is ∙ (sym c.eq.ensures ∙ c.if-eq.false) in
    let all = shows a.out.now a.at (same_record a.before a.after) (record_line a.place a.after) q.new.out q.result h.result
    other h.ensures q.ensures.out_after q.ensures.value in
    record { out_after = all.0; value = all.1 }
