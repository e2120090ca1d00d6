use Rattle.pool.specs.Words.{no_laying}
use borrow.Author.Rules.{rules}
use Rattle.pool.proofs.laying.no_laying.Goals as goal

pub returns : goal.returns
unfolding no_laying
returns c = search rules
