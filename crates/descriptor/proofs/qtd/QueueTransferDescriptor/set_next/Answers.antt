use Rattle.descriptor.specs.Descriptors.{with_next}
use Rattle.descriptor.proofs.qtd.QueueTransferDescriptor.set_next.Goals as goal

pub returns : goal.returns
unfolding with_next
returns c = rw c.next_word.ensures
