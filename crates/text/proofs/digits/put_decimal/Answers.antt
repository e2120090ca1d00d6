use Rattle.text.specs.Text.{decimal}
use Rattle.text.proofs.digits.put_decimal.Goals as goal

pub returns : goal.returns
unfolding decimal
returns c = c.put_digits.ensures
