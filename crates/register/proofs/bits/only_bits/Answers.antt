use borrow.Author.Rules.{rules}
use Rattle.register.specs.Bits.{only_bits}
use Rattle.register.proofs.bits.only_bits.Goals as goal

pub returns : goal.returns
unfolding only_bits
returns c = search rules
