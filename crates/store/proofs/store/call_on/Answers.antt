use Rattle.std.proofs.Common.{◌≡◌, arith, length}
use Rattle.store.proofs.Known.{Known}
use Rattle.store.proofs.LendLaws.{called_rows, called_words}
use Rattle.store.proofs.StoreCases.{called_opened, called_tended, called_view_lem}
use Rattle.store.proofs.store.call_on.Goals as goal

pub invariant_of-result : goal.invariant_of-result
invariant_of-result c =
    let w = c.args.store in
    let call = c.args.call in
    let d = c.records_lent in
    let k = c.slots_lent in
    let h = c.words_lent in
    let u = c.bytes_lent in
    let known : Known c.args.store = record { slots_length = omega arith; slots_fit = c.words_fit.ensures; free_fit = c.words_fit-2.ensures } in
    let long : length c.args.store.rows.slots ≡ 192 = omega arith in
    let e = c.apply-reply.ensures in
    let rows =
    called_rows w.rows d.result k.result h.result u.result _ _ _ _ _ long (omega arith) c.apply-reply.auto.slots w.core call c.apply-reply.result
    e.setups_after e.words_after in
    let words =
    called_words w.rows d.result k.result h.result u.result _ _ _ _ _ long (omega arith) c.apply-reply.auto.slots w.core call c.apply-reply.result
    e.setups_after e.words_after in
    record { tended = called_tended w call d.result k.result h.result u.result c.apply-reply.result _ known d.ensures k.ensures h.ensures u.ensures rows words }

pub returns : goal.returns
returns c =
    let w = c.args.store in
    let call = c.args.call in
    let d = c.records_lent in
    let k = c.slots_lent in
    let h = c.words_lent in
    let u = c.bytes_lent in
    let known : Known c.args.store = record { slots_length = omega arith; slots_fit = c.words_fit.ensures; free_fit = c.words_fit-2.ensures } in
    let long : length c.args.store.rows.slots ≡ 192 = omega arith in
    let e = c.apply-reply.ensures in
    let rows =
    called_rows w.rows d.result k.result h.result u.result _ _ _ _ _ long (omega arith) c.apply-reply.auto.slots w.core call c.apply-reply.result
    e.setups_after e.words_after in
    let words =
    called_words w.rows d.result k.result h.result u.result _ _ _ _ _ long (omega arith) c.apply-reply.auto.slots w.core call c.apply-reply.result
    e.setups_after e.words_after in
    record {
      result_value = called_view_lem w call d.result k.result h.result u.result c.apply-reply.result _ known d.ensures k.ensures h.ensures u.ensures rows words;
      stays_open = called_opened w call d.result k.result h.result u.result c.apply-reply.result _ known d.ensures k.ensures h.ensures u.ensures rows words;
    }
