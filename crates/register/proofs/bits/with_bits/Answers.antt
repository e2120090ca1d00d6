use borrow.Author.Rules.{rules}
use Rattle.register.specs.Bits.{with_bits}
use Rattle.register.proofs.bits.with_bits.Goals as goal

pub returns : goal.returns
unfolding with_bits
returns c = search rules
