use mathlib.Core.Path.{◌≡◌, ◌∙◌}
use native.Mathlib.Omega.{arith}
use lib.ListN.{length}
use Rattle.job_sheet.proofs.ListingCases.{descriptor_put, word_end, words_end}
use borrow.Author.Rules.{rules}
use Rattle.job_sheet.proofs.listing.put_descriptor.Goals as goal

pub put_words-next-requires : goal.put_words-next-requires
put_words-next-requires c =
    let five : length c.args.d.pages ≡ 5 = search rules in
    let w = c.put_word-next-2 in
    let v = c.put_word-next in
    let n = c.put_number-next in
    let p = c.put-next in
    omega (arith, five, c.requires, w.ensures.value, v.ensures.value, n.ensures.upper_bound, p.ensures.value, w.auto.out, v.auto.out, n.auto.out, p.auto.out)

pub put-requires : goal.put-requires
put-requires c =
    let five : length c.args.d.pages ≡ 5 = search rules in
    let z = c.put_words-next in
    let w = c.put_word-next-2 in
    let v = c.put_word-next in
    let n = c.put_number-next in
    let p = c.put-next in
    omega (arith, five, c.requires, z.ensures.value, w.ensures.value, v.ensures.value, n.ensures.upper_bound, p.ensures.value, z.auto.out, w.auto.out, v.auto.out, n.auto.out, p.auto.out)

pub returns : goal.returns
returns c =
    let a = c.args in
    let five : length a.d.pages ≡ 5 = search rules in
    let z = c.put_words-next.ensures in
    let w = c.put_word-next-2.ensures in
    let v = c.put_word-next.ensures in
    let n = c.put_number-next.ensures in
    let p = c.put-next.ensures in
    let q = c.put.ensures in
    let e = descriptor_put a.out.now a.at (omega (arith, c.requires)) _ _ _ _ _ _ _ _ _ _ _ _ a.place a.d (p.out_after, p.value) (n.out_after, n.value)
    (v.out_after, v.value ∙ word_end _ _) (w.out_after, w.value ∙ word_end _ _) (z.out_after, z.value ∙ words_end _ _) (q.out_after, q.value) in
    record { out_after = e.0; value = e.1; upper_bound = omega (arith, five, z.value, w.value, v.value, n.upper_bound, p.value, q.value) }
