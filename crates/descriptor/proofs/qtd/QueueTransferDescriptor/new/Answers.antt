use Rattle.descriptor.proofs.QtdCases.{new_is}
use Rattle.descriptor.proofs.qtd.QueueTransferDescriptor.new.Goals as goal

pub returns : goal.returns
returns c = search new_is
