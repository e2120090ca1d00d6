use Rattle.token.proofs.TokenLaws.{total_case}
use Rattle.token.proofs.qtd.QtdToken.total_bytes.Goals as goal

pub returns : goal.returns
returns c = total_case c.args.self.0
