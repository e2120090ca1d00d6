use Rattle.call_log.proofs.LineCases.{part_byte, part_joined, part_put, part_word}
use Rattle.call_log.proofs.line.put_part.Goals as goal

pub returns-in-Decimal : goal.returns-in-Decimal
returns-in-Decimal c =
    let a = c.args in
    let p = c.put_spaced_decimal in
    let all = part_put a.out.now p.new.out a.at p.result a.part _ c.in-Decimal.is p.ensures.out_after p.ensures.value in
    record { out_after = all.0; value = all.1 }

pub returns-in-Word : goal.returns-in-Word
returns-in-Word c =
    let a = c.args in
    let p = c.put_spaced_hex in
    let all = part_word a.out.now p.new.out a.at p.result a.part _ c.in-Word.is p.ensures.out_after p.ensures.value in
    record { out_after = all.0; value = all.1 }

pub returns-in-Byte : goal.returns-in-Byte
returns-in-Byte c =
    let a = c.args in
    let p = c.put_spaced_hex-in-Byte in
    let all = part_byte a.out.now p.new.out a.at p.result a.part _ c.in-Byte.is p.ensures.out_after p.ensures.value in
    record { out_after = all.0; value = all.1 }

pub returns-in-Joined : goal.returns-in-Joined
returns-in-Joined c =
    let a = c.args in
    let p = c.put_hex in
    let all = part_joined a.out.now p.new.out a.at p.result a.part _ c.in-Joined.is p.ensures.out_after p.ensures.value in
    record { out_after = all.0; value = all.1 }

pub returns-in-Dash : goal.returns-in-Dash
returns-in-Dash c =
    let a = c.args in
    let p = c.put_dash in
    let all = part_put a.out.now p.new.out a.at p.result a.part _ c.in-Dash.is p.ensures.out_after p.ensures.value in
    record { out_after = all.0; value = all.1 }
