-- What a request's descriptors say (`view_of`), and what is written to the pool (`fill_of`).
use Rattle.std.specs.Prelude.{ℕ, suc, ◌+◌, ◌-◌, ◌*◌, ◌/◌, ◌≤◌, ◌^◌, Bool, true, false, cond, not, ◌&&◌, List, [], ◌∷◌, map, eqb, get_or, set}
use Rattle.common.specs.declared.kinds.EndpointType.{EndpointType}
use Rattle.common.specs.declared.kinds.EndpointType.TheVariants.{Control, Isochronous, Bulk, Interrupt}
use Rattle.token.specs.EhciQtd.{active, halted, total_bytes, transaction_error}
use Rattle.descriptor.specs.declared.qtd.QueueTransferDescriptor.{QueueTransferDescriptor}
use Rattle.descriptor.specs.Descriptors.{terminated}
use Rattle.descriptor.specs.Slots.{zero_slots}
use Rattle.pool.specs.Plain.{Ask}
use Rattle.pool.specs.Plain.{Chain}
use Rattle.pool.specs.Plain.{Deed}
use Rattle.pool.specs.Plain as Deeds
use Rattle.pool.specs.declared.chain.Standing.{Standing}
use Rattle.pool.specs.declared.chain.Standing.TheVariants.{Inactive, Erring, Active}
use Rattle.pool.specs.declared.chain.View.{View}
use Rattle.pool.specs.declared.transfer.Transfer.{Transfer}
use Rattle.pool.specs.EhciChain.{follow}
use Rattle.pool.specs.Places.{Within, list_of, packed}
use Rattle.pool.specs.Transfers.{requested_at, record_at}

-- the record of thirteen zero words
abbrev pub blank : QueueTransferDescriptor
blank = record { next = 0; alternate = 0; token = 0; pages = zero_slots; upper = zero_slots }

-- ---- what is written

-- only the token changes
abbrev pub with_token : QueueTransferDescriptor → ℕ → QueueTransferDescriptor
with_token here w =
    record { next = here.next; alternate = here.alternate; token = w; pages = here.pages; upper = here.upper }

-- what opening leaves, with these places to come: zero words, and at the last place the shared descriptor
abbrev pub fresh_at : List ℕ → QueueTransferDescriptor
fresh_at [] = terminated
fresh_at (q ∷ qs) = blank

-- the k-th of a chain's records, with these places to come
abbrev pub written_of : Deed → ℕ → ℕ → List ℕ → QueueTransferDescriptor → QueueTransferDescriptor
written_of Deeds.Leave base k rest here = here
written_of Deeds.Open base k rest here = fresh_at rest
written_of (Deeds.Transfer t) base k rest here = record_at t k rest base
written_of (Deeds.Token w) base k rest here = with_token here w

unfoldable pub filled_from : Deed → ℕ → ℕ → List ℕ → List QueueTransferDescriptor → List QueueTransferDescriptor
filled_from deed base k [] rs = rs
filled_from deed base k (p ∷ ps) rs =
    filled_from deed base (suc k) ps (set rs p (written_of deed base k ps (get_or rs p blank)))

unfoldable pub fill_of : Chain → List QueueTransferDescriptor → List QueueTransferDescriptor
fill_of c rs = filled_from c.deed c.base 0 (list_of c.places) rs

-- nothing is written
unfoldable pub no_chain : Chain
no_chain = record { places = packed []; base = 0; deed = Deeds.Leave }

-- ---- what the controller meets

abbrev pub place_of : ℕ → ℕ → ℕ
place_of base address = (address - base) / 64

abbrev pub next_at : ℕ → List QueueTransferDescriptor → ℕ → ℕ
next_at base rs address = (get_or rs (place_of base address) blank).next

-- the places met from a next pointer on, at most so many
unfoldable pub met_from : ℕ → List QueueTransferDescriptor → ℕ → ℕ → List ℕ
met_from base rs m w = map (place_of base) (follow (next_at base rs) m w)

-- ---- what is seen

pub record Seen : Type 0 where
  pub requested : ℕ
  pub token : ℕ

-- the descriptors at some places, in order
unfoldable pub seen_from : EndpointType → ℕ → ℕ → ℕ → List ℕ → List QueueTransferDescriptor → List Seen
seen_from kind length limit k [] rs = []
seen_from kind length limit k (p ∷ ps) rs =
    record { requested = requested_at kind length limit k; token = (get_or rs p blank).token }
    ∷ seen_from kind length limit (suc k) ps rs

-- nothing is asked
unfoldable pub no_ask : Ask
no_ask = record { places = packed []; kind = Control; length = 0; limit = 0; stops = false }

abbrev pub is_active : ℕ → Bool
is_active w = not (eqb (active w) 0)

-- 02 order 7: "Error shall mean bit 6, Halted, alone"
abbrev pub is_erring : ℕ → Bool
is_erring w = not (eqb (halted w) 0)

abbrev pub is_retried : ℕ → Bool
is_retried w = not (eqb (transaction_error w) 0)

abbrev pub number_if : Bool → ℕ → ℕ → ℕ
number_if true a b = a
number_if false a b = b

-- "inactive without error and has bytes left", whatever was requested
abbrev pub is_short : ℕ → Bool
is_short w = not (is_active w) && (not (is_erring w) && not (eqb (total_bytes w) 0))

-- "the reported length stops with that one": the descriptors that are read, of a request that stops so or of another
unfoldable pub read_of : Bool → List Seen → List Seen
read_of stops [] = []
read_of stops (s ∷ ss) = s ∷ cond (stops && is_short s.token) [] (read_of stops ss)

-- every descriptor is inactive, none erring; an error comes before any active one; an active one comes first
unfoldable pub standing_of : List Seen → Standing
standing_of [] = Inactive
standing_of (s ∷ ss) = cond (is_active s.token) Active (cond (is_erring s.token) Erring (standing_of ss))

abbrev pub stage_of : ℕ → Standing
stage_of w = cond (is_active w) Active (cond (is_erring w) Erring Inactive)

-- an active descriptor comes first
abbrev pub stands_active : Standing → Bool
stands_active Inactive = false
stands_active Erring = false
stands_active Active = true

-- the standing that a number says: a number that is not 0 stays whatever comes later, and 2 alone is active
abbrev pub standing_numbered : ℕ → Standing
standing_numbered n = cond (eqb n 0) Inactive (cond (eqb n 2) Active Erring)

-- the first erring token, 0 where none is
unfoldable pub first_error : List Seen → ℕ
first_error [] = 0
first_error (s ∷ ss) = number_if (is_erring s.token) s.token (first_error ss)

-- the sum of max(0, requested − bytes left)
unfoldable pub length_of : List Seen → ℕ
length_of [] = 0
length_of (s ∷ ss) = (s.requested - total_bytes s.token) + length_of ss

-- "how many of its descriptors have bit 3 set"
unfoldable pub retried_of : List Seen → ℕ
retried_of [] = 0
retried_of (s ∷ ss) = number_if (is_retried s.token) 1 0 + retried_of ss

unfoldable pub view_of : List Seen → View
view_of ss = record { stage = standing_of ss; failed = first_error ss; moved = length_of ss; retried = retried_of ss }

abbrev pub or_else : ℕ → ℕ → ℕ
or_else a b = number_if (eqb a 0) b a

abbrev pub stage_else : Standing → Standing → Standing
stage_else Inactive b = b
stage_else Erring b = Erring
stage_else Active b = Active

-- what is seen first, then more
abbrev pub joined : View → View → View
joined u v =
    record {
      stage = stage_else u.stage v.stage;
      failed = or_else u.failed v.failed;
      moved = u.moved + v.moved;
      retried = u.retried + v.retried;
    }

abbrev pub see_of : View → ℕ → ℕ → View
see_of u requested token = joined u (view_of (record { requested = requested; token = token } ∷ []))

-- ---- what is asked of a caller

-- every chunk starts inside the buffer
abbrev pub starts_good : EndpointType → Transfer → ℕ → Type 0
starts_good Control t count = Unit
starts_good Isochronous t count = (count - 1) * t.limit ≤ t.length
starts_good Bulk t count = (count - 1) * t.limit ≤ t.length
starts_good Interrupt t count = (count - 1) * t.limit ≤ t.length

-- n records from base on, a buffer and a setup packet that end at or below 2^32, and a limit that the settings have
abbrev pub transfer_good : Transfer → ℕ → ℕ → ℕ → Type 0
transfer_good t base n count =
    (base + 64 * n ≤ 2 ^ 32) × (t.length ≤ 2 ^ 32 - t.address) × (8 ≤ 2 ^ 32 - t.setup)
    × starts_good t.kind t count × (t.limit ≤ 16384)

abbrev pub deed_good : Deed → ℕ → ℕ → ℕ → Type 0
deed_good Deeds.Leave base n count = Unit
deed_good Deeds.Open base n count = Unit
deed_good (Deeds.Transfer t) base n count = transfer_good t base n count
deed_good (Deeds.Token w) base n count = Unit

pub record ChainGood (n : ℕ) (c : Chain) : Type 0 where
  pub few : c.places.count ≤ 256
  pub within : Within n (list_of c.places)
  pub deed : deed_good c.deed c.base n c.places.count

abbrev pub chain_good : ℕ → Chain → Type 0
chain_good n c = ChainGood n c
