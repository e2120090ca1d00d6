use Rattle.descriptor.proofs.HeadCases.{address_put}
use borrow.Author.Rules.{rules}
use Rattle.descriptor.proofs.head.set_device_address.Goals as goal

pub returns : goal.returns
returns c = search (rules, address_put)
