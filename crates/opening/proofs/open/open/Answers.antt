use Rattle.std.proofs.Common.{ap, ◌∙◌}
use Prim.Native.Nat.{ℕ}
use Rattle.opening.specs.Words.{decide_words, open_count}
use Rattle.opening.proofs.WordsLaws.{may_open, opens, together}
use Rattle.opening.proofs.open.open.Goals as goal

pub open_first-requires : goal.open_first-requires
open_first-requires c =
    let a = c.args in
    let d = c.decide_open-opening in
    may_open a.settings a.rows.now a.slots.now a.heads.now a.frames.now a.setups.now d.result d.new.slots d.new.heads d.new.frames d.new.setups
    (d.ensures ∙ ap (λ (m : ℕ). decide_words a.settings m a.slots.now a.heads.now a.frames.now a.setups.now) c.row_length-count.ensures) c.open_count-opened.result
    (c.open_count-opened.ensures ∙ ap (open_count d.result.answer) c.row_length-count.ensures)

pub returns-clause-setups_after : goal.returns-clause-setups_after
returns-clause-setups_after c =
    let a = c.args in
    let d = c.decide_open-opening in
    together a.settings a.rows.now a.slots.now a.heads.now a.frames.now a.setups.now d.result d.new.slots d.new.heads d.new.frames d.new.setups
    (d.ensures ∙ ap (λ (m : ℕ). decide_words a.settings m a.slots.now a.heads.now a.frames.now a.setups.now) c.row_length-count.ensures) c.open_count-opened.result
    (c.open_count-opened.ensures ∙ ap (open_count d.result.answer) c.row_length-count.ensures) c.open_first.new.rows c.open_first.ensures

pub returns-clause-opens_words : goal.returns-clause-opens_words
returns-clause-opens_words c =
    let a = c.args in
    let d = c.decide_open-opening in
    opens a.settings a.rows.now a.slots.now a.heads.now a.frames.now a.setups.now d.result d.new.slots d.new.heads d.new.frames d.new.setups
    (d.ensures ∙ ap (λ (m : ℕ). decide_words a.settings m a.slots.now a.heads.now a.frames.now a.setups.now) c.row_length-count.ensures)
