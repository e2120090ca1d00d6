use borrow.Author.Rules.{rules}
use Rattle.register.specs.Bits.{any_of}
use Rattle.register.proofs.bits.any_of.Goals as goal

pub returns : goal.returns
unfolding any_of
returns c = search rules
