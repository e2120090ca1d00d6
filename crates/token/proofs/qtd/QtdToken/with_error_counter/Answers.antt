use Rattle.token.proofs.TokenLaws.{counter_case}
use borrow.Author.Rules.{rules}
use Rattle.token.proofs.qtd.QtdToken.with_error_counter.Goals as goal

pub returns : goal.returns
returns c = search (rules, counter_case)
