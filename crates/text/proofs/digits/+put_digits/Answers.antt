use Rattle.std.proofs.Common.{arith, ◌-◌, ◌/◌}
use Rattle.text.proofs.DigitCases.{digits_none, digits_low, digits_more}
use Rattle.text.proofs.TextLaws.{decimal_most}
use Rattle.text.proofs.digits.+put_digits.Goals as goal

pub returns-then-most-eq0 : goal.returns-then-most-eq0
returns-then-most-eq0 t c =
    let both = digits_none c.args.out.now c.args.at c.args.most c.args.n c.if-most-eq0.true in
    record { out_after = both.0; value = both.1 }

pub returns-then-n-lt10 : goal.returns-then-n-lt10
returns-then-n-lt10 t c =
    let both = digits_low c.args.out.now c.put.new.out c.args.at c.args.most c.args.n c.decimal_digit.result c.put.result c.if-most-eq0.false
    c.if-n-lt10.true c.decimal_digit.ensures c.put.ensures.out_after c.put.ensures.value in
    record { out_after = both.0; value = both.1 }

pub put-requires-2 : goal.put-requires-2
put-requires-2 t c = omega (arith, decimal_most (c.args.most - 1) (c.args.n / 10), c.put_digits-last.ensures.value, c.put_digits-last.auto.out)

pub returns : goal.returns
returns t c =
    let both = digits_more c.args.out.now c.put_digits-last.new.out c.put-2.new.out c.args.at c.args.most c.args.n c.put_digits-last.result
    c.decimal_digit-2.result c.put-2.result c.requires c.if-most-eq0.false c.if-n-lt10.false c.put_digits-last.ensures.out_after
    c.put_digits-last.ensures.value c.decimal_digit-2.ensures c.put-2.ensures.out_after c.put-2.ensures.value in
    record { out_after = both.0; value = both.1 }
