use Rattle.token.proofs.TokenLaws.{flag_field}
use mathlib.Core.Path.{◌∙◌}
use borrow.Author.Rules.{rules}
use Rattle.token.proofs.qtd.QtdToken.with_active.Goals as goal

pub returns : goal.returns
returns c = c.with_flag.ensures ∙ flag_field c.args.self.0 7 c.args.set (search rules) (search rules)
