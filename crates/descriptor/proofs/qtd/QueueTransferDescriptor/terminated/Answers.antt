use borrow.Author.Rules.{rules}
use Rattle.descriptor.specs.Descriptors.{terminated}
use Rattle.descriptor.proofs.qtd.QueueTransferDescriptor.terminated.Goals as goal

pub returns : goal.returns
unfolding terminated
returns c = search rules
