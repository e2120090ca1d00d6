use mathlib.Core.Path.{refl}
use Rattle.descriptor.specs.Descriptors.{qtd_with}
use Rattle.descriptor.proofs.qtd.QueueTransferDescriptor.with_slots.Goals as goal

pub returns : goal.returns
unfolding qtd_with
returns c = refl
