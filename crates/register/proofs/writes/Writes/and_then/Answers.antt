use Rattle.register.specs.Writes.{and_then}
use borrow.Author.Rules.{rules}
use Rattle.register.proofs.writes.Writes.and_then.Goals as goal

pub returns : goal.returns
unfolding and_then
returns c = search rules
