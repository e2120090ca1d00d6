use Rattle.register.specs.Writes.{no_writes}
use borrow.Author.Rules.{rules}
use Rattle.register.proofs.writes.Writes.none.Goals as goal

pub returns : goal.returns
unfolding no_writes
returns c = search rules
