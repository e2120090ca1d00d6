use Rattle.ehci.proofs.reply.of_settled.Goals as goal

pub returns : goal.returns
returns c = cc
