use Rattle.words.specs.Record.{word_of}
use borrow.Author.Rules.{rules}
use Rattle.words.proofs.record.word_of.Goals as goal

pub returns : goal.returns
unfolding word_of
returns c = search rules
