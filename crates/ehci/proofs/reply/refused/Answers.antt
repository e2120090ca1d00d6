use Rattle.ehci.proofs.reply.refused.Goals as goal

pub returns : goal.returns
returns c = cc
