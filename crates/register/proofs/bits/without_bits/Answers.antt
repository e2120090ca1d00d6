use borrow.Author.Rules.{rules}
use Rattle.register.specs.Bits.{without_bits}
use Rattle.register.proofs.bits.without_bits.Goals as goal

pub returns : goal.returns
unfolding without_bits
returns c = search rules
