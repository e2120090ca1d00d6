use mathlib.Core.Path.{refl, ◌∙◌}
use Rattle.text.proofs.Puts.{put_none}
use Rattle.job_sheet.specs.Sheets.{joined}
use native.Mathlib.Omega.{arith}
use Rattle.job_sheet.proofs.ListingCases.{word_turn, words_done, words_so_far}
use Rattle.job_sheet.proofs.listing.put_words.Goals as goal

pub loop-word-init : goal.loop-word-init
unfolding joined
loop-word-init c = (refl, put_none _ _, omega arith)

pub put_word-next-requires : goal.put_word-next-requires
put_word-next-requires c =
    let l = c.loop-word in
    omega (arith, l.invariant.2, words_so_far c.args.words.now l.word-index (omega arith))

pub loop-word-preserved : goal.loop-word-preserved
loop-word-preserved c =
    let a = c.args in
    let l = c.loop-word in
    let w = c.put_word-next in
    let e = word_turn a.out.now a.at (omega arith) a.words.now l.out _ l.next l.word-index _ (omega arith) (l.invariant.1, l.invariant.2) w.ensures.out_after w.ensures.value in
    (w.auto.out ∙ l.invariant.0, e.0, e.1)

pub returns : goal.returns
returns c =
    let a = c.args in
    let l = c.loop-word in
    let all = words_done a.out.now a.at (omega arith) a.words.now _ _ l.word-index (omega arith) (l.invariant.1, l.invariant.2) in
    record { out_after = all.0; value = all.1 }
