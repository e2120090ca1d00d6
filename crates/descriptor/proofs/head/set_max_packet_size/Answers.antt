use Rattle.descriptor.proofs.HeadCases.{packet_put}
use borrow.Author.Rules.{rules}
use Rattle.descriptor.proofs.head.set_max_packet_size.Goals as goal

pub returns : goal.returns
returns c = search (rules, packet_put)
