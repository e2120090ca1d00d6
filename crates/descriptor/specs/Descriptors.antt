-- Document 01, "Descriptors, heads, links": a descriptor's thirteen words.
use Rattle.std.specs.Prelude.{ℕ, ◌-◌, ◌%◌, List, Option, Some, None}
use Rattle.token.specs.declared.qtd.QtdToken.{QtdToken}
use Rattle.descriptor.specs.declared.qtd.QueueTransferDescriptor.{QueueTransferDescriptor}
use Rattle.descriptor.specs.Slots.{page_slots, zero_slots}

-- next 1, alternate 1, rest 0
unfoldable pub terminated : QueueTransferDescriptor
terminated = record { next = 1; alternate = 1; token = 0; pages = zero_slots; upper = zero_slots }

-- a descriptor for length bytes at an address, last of its chain
unfoldable pub new_qtd : QtdToken → ℕ → ℕ → QueueTransferDescriptor
new_qtd token address length =
    record { next = 1; alternate = 1; token = token.0; pages = page_slots address length; upper = zero_slots }

-- one with five page slots, last of its chain
unfoldable pub qtd_with : QtdToken → List ℕ → QueueTransferDescriptor
qtd_with token pages = record { next = 1; alternate = 1; token = token.0; pages = pages; upper = zero_slots }

-- the following descriptor's address, 1 at the end
abbrev pub word_of_next : Option ℕ → ℕ
word_of_next None = 1
word_of_next (Some address) = address - address % 32

unfoldable pub with_next : QueueTransferDescriptor → Option ℕ → QueueTransferDescriptor
with_next d next =
    record { next = word_of_next next; alternate = d.alternate; token = d.token; pages = d.pages; upper = d.upper }
