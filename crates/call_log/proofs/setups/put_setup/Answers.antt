use Rattle.std.specs.Prelude.{◌+◌, ◌*◌, [], ◌∷◌, get_or}
use mathlib.Core.Path.{sym, ◌∙◌}
use Rattle.call_log.specs.Changes.{same_eight, setup_change}
use Rattle.call_log.specs.Lines.{setup_line}
use Rattle.call_log.proofs.ChangeCases.{shows, stays}
use Rattle.call_log.proofs.setups.put_setup.Goals as goal

pub returns-then-same_eight : goal.returns-then-same_eight
unfolding setup_change
returns-then-same_eight c =
    let a = c.args in
    let l = a.after.now in
    let p = 8 * a.slot in
    let all = stays a.out.now a.at (same_eight a.before.now l p)
    (setup_line a.slot (get_or l p 0 ∷ get_or l (p + 1) 0 ∷ get_or l (p + 2) 0 ∷ get_or l (p + 3) 0 ∷ get_or l (p + 4) 0 ∷ get_or l (p + 5) 0 ∷ get_or l (p + 6) 0 ∷ get_or l (p + 7) 0 ∷ []))
    (sym c.same_eight.ensures ∙ c.if-same_eight.true) in
    record { out_after = all.0; value = all.1 }

pub returns : goal.returns
unfolding setup_change
returns c =
    let a = c.args in
    let l = a.after.now in
    let p = 8 * a.slot in
    let h = c.setup_line-line in
    let q = c.put_line in
    let all = shows a.out.now a.at (same_eight a.before.now l p)
    (setup_line a.slot (get_or l p 0 ∷ get_or l (p + 1) 0 ∷ get_or l (p + 2) 0 ∷ get_or l (p + 3) 0 ∷ get_or l (p + 4) 0 ∷ get_or l (p + 5) 0 ∷ get_or l (p + 6) 0 ∷ get_or l (p + 7) 0 ∷ []))
    q.new.out q.result h.result (sym c.same_eight.ensures ∙ c.if-same_eight.false) h.ensures q.ensures.out_after q.ensures.value in
    record { out_after = all.0; value = all.1 }
