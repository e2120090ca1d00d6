use Rattle.ehci.proofs.reply.leave.Goals as goal

pub returns : goal.returns
returns c = cc
