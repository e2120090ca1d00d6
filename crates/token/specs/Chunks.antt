-- Document 01, "Tokens and plans": the chunks of a bulk or interrupt request, and how many descriptors a request needs.
use Rattle.std.specs.Prelude.{ℕ, zero, suc, ◌+◌, ◌-◌, ◌*◌, ◌/◌, ◌%◌, min, Bool, true, false, eqb}
use Rattle.common.specs.declared.kinds.EndpointType.{EndpointType}
use Rattle.common.specs.declared.kinds.EndpointType.TheVariants.{Control, Isochronous, Bulk, Interrupt}

-- "For bulk and interrupt the working limit is the largest multiple of the slot's packet size .. that is not above C": a chunk of it ends with a
-- full packet (USB 5.8.3). A control request has no chunks
abbrev pub working_limit : EndpointType → ℕ → ℕ → ℕ
working_limit Control limit size = limit
working_limit Isochronous limit size = limit - limit % size
working_limit Bulk limit size = limit - limit % size
working_limit Interrupt limit size = limit - limit % size

-- max(0, min(limit, length − k · limit)), k from 0: a subtraction of naturals stops at 0
abbrev pub chunk_at : ℕ → ℕ → ℕ → ℕ
chunk_at k length limit = min limit (length - k * limit)

-- 1 at length 0, otherwise length / limit rounded up
abbrev pub if_empty : Bool → ℕ → ℕ → ℕ
if_empty true a b = a
if_empty false a b = b

unfoldable pub chunk_count : ℕ → ℕ → ℕ
chunk_count length limit = if_empty (eqb length 0) 1 ((length + (limit - 1)) / limit)

-- control 2, or 3 with data; else as many as chunks
unfoldable pub need_of : EndpointType → ℕ → ℕ → ℕ
need_of Control length limit = if_empty (eqb length 0) 2 3
need_of Isochronous length limit = chunk_count length limit
need_of Bulk length limit = chunk_count length limit
need_of Interrupt length limit = chunk_count length limit

-- the bytes of the chunks below n
unfoldable pub bytes_below : ℕ → ℕ → ℕ → ℕ
bytes_below zero length limit = 0
bytes_below (suc n) length limit = bytes_below n length limit + chunk_at n length limit
