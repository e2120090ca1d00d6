use Rattle.std.proofs.Common.{◌≡◌, arith, length}
use Rattle.store.proofs.LendLaws.{opened_rows_lem, opened_words}
use Rattle.store.proofs.StoreCases.{done_opened, done_view, not_done, refused_view}
use Rattle.store.proofs.store.open_in.Goals as goal

pub returns-in-Ok : goal.returns-in-Ok
returns-in-Ok c =
    let w = c.args.store in
    let s = c.args.settings in
    let d = c.records_lent in
    let k = c.slots_lent in
    let h = c.words_lent in
    let u = c.bytes_lent in
    let o = c.open-opening.result in
    let long : length c.args.store.rows.slots ≡ 192 = omega arith in
    let e = c.open-opening.ensures in
    let rows =
    opened_rows_lem w.rows d.result k.result h.result u.result _ _ _ _ _ long (omega arith) c.open-opening.auto.slots s o e.setups_after e.opens_words in
    let words =
    opened_words w.rows d.result k.result h.result u.result _ _ _ _ _ long (omega arith) c.open-opening.auto.slots s o e.setups_after e.opens_words in
    record {
      result_value = done_view w s d.result k.result h.result u.result o _ long d.ensures k.ensures h.ensures u.ensures rows words c.in-Ok.is;
      opens = λ e. done_opened w s d.result k.result h.result u.result o _ long d.ensures k.ensures h.ensures u.ensures rows words c.in-Ok.is;
    }

pub returns-in-Err : goal.returns-in-Err
returns-in-Err c =
    let w = c.args.store in
    let s = c.args.settings in
    let d = c.records_lent in
    let k = c.slots_lent in
    let h = c.words_lent in
    let u = c.bytes_lent in
    let o = c.open-opening.result in
    let long : length c.args.store.rows.slots ≡ 192 = omega arith in
    let e = c.open-opening.ensures in
    let rows =
    opened_rows_lem w.rows d.result k.result h.result u.result _ _ _ _ _ long (omega arith) c.open-opening.auto.slots s o e.setups_after e.opens_words in
    let words =
    opened_words w.rows d.result k.result h.result u.result _ _ _ _ _ long (omega arith) c.open-opening.auto.slots s o e.setups_after e.opens_words in
    record {
      result_value = refused_view w s d.result k.result h.result u.result o _ long d.ensures k.ensures h.ensures u.ensures rows words _ c.in-Err.is;
      opens = λ e. not_done _ _ c.in-Err.is e;
    }
