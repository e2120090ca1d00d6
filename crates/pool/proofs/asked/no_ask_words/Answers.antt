use Rattle.pool.specs.Words.{no_ask_words}
use borrow.Author.Rules.{rules}
use Rattle.pool.proofs.asked.no_ask_words.Goals as goal

pub returns : goal.returns
unfolding no_ask_words
returns c = search rules
