use Rattle.descriptor.proofs.HeadCases.{head_words}
use borrow.Author.Rules.{rules}
use Rattle.descriptor.proofs.head.QueueHead.words.Goals as goal

pub returns : goal.returns
returns c = head_words c.args.self (search rules) (search rules)
