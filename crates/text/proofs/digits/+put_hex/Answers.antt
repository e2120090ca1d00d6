use Rattle.text.proofs.DigitCases.{hex_put_none, hex_put_more}
use Rattle.text.proofs.digits.+put_hex.Goals as goal

pub returns-then-digits-eq0-clause-out_after : goal.returns-then-digits-eq0-clause-out_after
returns-then-digits-eq0-clause-out_after t c = (hex_put_none c.args.out.now c.args.at c.args.digits c.args.n c.if-digits-eq0.true).0

pub returns-clause-out_after : goal.returns-clause-out_after
returns-clause-out_after t c =
    (hex_put_more c.args.out.now c.put_hex-last.new.out c.put.new.out c.args.at c.args.digits c.args.n c.put_hex-last.result
    c.hex_digit.result c.put.result c.requires c.if-digits-eq0.false c.put_hex-last.ensures.out_after c.put_hex-last.ensures.value
    c.hex_digit.ensures c.put.ensures.out_after c.put.ensures.value).0
