use Rattle.register.proofs.FieldLaws.{any_field}
use mathlib.Core.Path.{◌∙◌}
use Rattle.token.proofs.qtd.QtdToken.retried.Goals as goal

pub returns : goal.returns
returns c = c.any_of.ensures ∙ any_field c.args.self.0 3 1
