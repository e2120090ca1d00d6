use Rattle.collection.proofs.WordsAsk.{asked_limit, asked_words}
use borrow.Author.Rules.{rules}
use Rattle.collection.proofs.ask.ask_for.Goals as goal

pub returns : goal.returns
returns c = search asked_words
