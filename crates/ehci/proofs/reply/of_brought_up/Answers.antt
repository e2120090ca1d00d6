use Rattle.ehci.proofs.reply.of_brought_up.Goals as goal

pub returns : goal.returns
returns c = cc
