use Rattle.token.proofs.TokenLaws.{flag_field}
use mathlib.Core.Path.{◌∙◌}
use borrow.Author.Rules.{rules}
use Rattle.token.proofs.qtd.QtdToken.with_data_toggle.Goals as goal

pub returns : goal.returns
returns c = c.with_flag.ensures ∙ flag_field c.args.self.0 31 c.args.set (search rules) (search rules)
