use Rattle.token.proofs.TokenLaws.{started_case}
use Rattle.token.proofs.qtd.QtdToken.started.Goals as goal

pub returns : goal.returns
returns c = search started_case
