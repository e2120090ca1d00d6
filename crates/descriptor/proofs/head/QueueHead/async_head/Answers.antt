use Rattle.descriptor.proofs.HeadCases.{ring}
use Rattle.descriptor.proofs.head.QueueHead.async_head.Goals as goal

pub returns : goal.returns
returns c = search ring
