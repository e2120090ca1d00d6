-- Document 01, "Tokens and plans", "Descriptors, heads, links", and order 1 of 02: a request's k-th descriptor.
use Rattle.std.specs.Prelude.{ℕ, ◌+◌, ◌*◌, Bool, true, false, cond, not, List, [], ◌∷◌, eqb, Option, Some, None}
use Rattle.token.specs.declared.qtd.QtdToken.{QtdToken}
use Rattle.common.specs.Kinds.{is_control}
use Rattle.common.specs.declared.kinds.Direction.{Direction}
use Rattle.common.specs.declared.kinds.Direction.TheVariants.{Out, In}
use Rattle.common.specs.declared.kinds.EndpointType.{EndpointType}
use Rattle.common.specs.declared.kinds.EndpointType.TheVariants.{Control, Isochronous, Bulk, Interrupt}
use Rattle.token.specs.Chunks.{chunk_at}
use Rattle.token.specs.Plans.{control_plan, chunk_token}
use Rattle.token.specs.Tokens.{only_if}
use Rattle.descriptor.specs.declared.qtd.QueueTransferDescriptor.{QueueTransferDescriptor}
use Rattle.descriptor.specs.Descriptors.{new_qtd, with_next}
use Rattle.pool.specs.declared.transfer.Transfer.{Transfer}

-- bytes of the buffer that descriptor k is for: of a control request the data has them all, setup and status none
unfoldable pub requested_at : EndpointType → ℕ → ℕ → ℕ → ℕ
requested_at Control length limit k = only_if (eqb k 1) length
requested_at Isochronous length limit k = chunk_at k length limit
requested_at Bulk length limit k = chunk_at k length limit
requested_at Interrupt length limit k = chunk_at k length limit

abbrev pub qtd_if : Bool → QueueTransferDescriptor → QueueTransferDescriptor → QueueTransferDescriptor
qtd_if true a b = a
qtd_if false a b = b

-- after the setup: data if there is any, then status
abbrev pub later_stage : Option QtdToken → QtdToken → ℕ → ℕ → ℕ → QueueTransferDescriptor
later_stage None status address length k = new_qtd status 0 0
later_stage (Some token) status address length k = qtd_if (eqb k 1) (new_qtd token address length) (new_qtd status 0 0)

-- the setup stage's buffer is the setup packet
unfoldable pub stage_of_place : Transfer → ℕ → QueueTransferDescriptor
stage_of_place t k =
    qtd_if
    (eqb k 0)
    (new_qtd (control_plan t.direction t.length).setup t.setup 8)
    (later_stage
    (control_plan t.direction t.length).«data»
    (control_plan t.direction t.length).status
    t.address
    t.length
    k)

abbrev pub is_last : List ℕ → Bool
is_last [] = true
is_last (q ∷ qs) = false

-- "bulk and interrupt In requests .. (control stays)": they end with their first short descriptor
abbrev pub ends_short : EndpointType → Direction → Bool
ends_short kind Out = false
ends_short kind In = not (is_control kind)

-- the alternate word of all but the last: the address of the shared descriptor, or 1
abbrev pub alternate_word : EndpointType → Direction → ℕ → ℕ
alternate_word kind direction shared = cond (ends_short kind direction) shared 1

-- "every descriptor but the last gets as alternate one shared inactive descriptor"; so of more than one
abbrev pub alternate_of : Transfer → Bool → ℕ
alternate_of t last = cond last 1 t.alternate

abbrev pub with_alternate : QueueTransferDescriptor → ℕ → QueueTransferDescriptor
with_alternate d word =
    record { next = d.next; alternate = word; token = d.token; pages = d.pages; upper = d.upper }

unfoldable pub chunk_qtd : Transfer → ℕ → Bool → QueueTransferDescriptor
chunk_qtd t k last =
    with_alternate
    (new_qtd
    (chunk_token t.direction (chunk_at k t.length t.limit) last)
    (t.address + k * t.limit)
    (chunk_at k t.length t.limit))
    (alternate_of t last)

abbrev pub bare_for : EndpointType → Transfer → ℕ → Bool → QueueTransferDescriptor
bare_for Control t k last = stage_of_place t k
bare_for Isochronous t k last = chunk_qtd t k last
bare_for Bulk t k last = chunk_qtd t k last
bare_for Interrupt t k last = chunk_qtd t k last

-- the k-th descriptor, whatever follows
unfoldable pub bare_at : Transfer → ℕ → Bool → QueueTransferDescriptor
bare_at t k last = bare_for t.kind t k last

-- a place's address; descriptors have 64 bytes each
abbrev pub address_of : ℕ → ℕ → ℕ
address_of base place = base + 64 * place

-- where the chain goes on, with these places to come
abbrev pub next_of : ℕ → List ℕ → Option ℕ
next_of base [] = None
next_of base (q ∷ qs) = Some (address_of base q)

-- the k-th descriptor, with these places to come
unfoldable pub record_at : Transfer → ℕ → List ℕ → ℕ → QueueTransferDescriptor
record_at t k rest base = with_next (bare_at t k (is_last rest)) (next_of base rest)
