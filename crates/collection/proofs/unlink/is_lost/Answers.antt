use Rattle.collection.proofs.UnlinkCases.{framed_is, lost_missing, lost_rows}
use Rattle.collection.proofs.WordsSlots.{slot_address, slot_head}
use borrow.Author.Rules.{rules}
use Rattle.collection.proofs.unlink.is_lost.Goals as goal

pub head_address-address-requires : goal.head_address-address-requires
head_address-address-requires c = search slot_address

pub detach-found-requires-clause-address_value : goal.detach-found-requires-clause-address_value
detach-found-requires-clause-address_value c = search slot_head
