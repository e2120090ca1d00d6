-- A slot's endpoint: closed, idle, with a linked request, or with one that is unlinking.
use Rattle.std.specs.Prelude.{ℕ, Bool, true, false, cond, not, ◌==◌, nat_lt}
use Rattle.common.specs.declared.kinds.Direction.{Direction}
use Rattle.common.specs.declared.kinds.Direction.TheVariants.{Out, In}
use Rattle.common.specs.declared.kinds.EndpointType.{EndpointType}
use Rattle.common.specs.declared.kinds.EndpointType.TheVariants.{Control, Isochronous, Bulk, Interrupt}
use Rattle.pipe.specs.declared.endpoints.Endpoint.{Endpoint}
use Rattle.pipe.specs.declared.endpoints.Endpoint.TheVariants.{Closed, Idle, Linked, Unlinking}
use Rattle.pipe.specs.declared.endpoints.Pipe.{Pipe}
use Rattle.pipe.specs.declared.endpoints.Request.{Request}
use Rattle.pipe.specs.declared.endpoints.UnlinkBoundary.{UnlinkBoundary}
use Rattle.pipe.specs.declared.endpoints.UnlinkBoundary.TheVariants.{Async, Periodic}
use Rattle.settings.specs.declared.settings.Settings.{Settings}
use Rattle.slot.specs.declared.slot.Slot.{Slot}
use Rattle.state.specs.Plain.{Ehci}
use Rattle.state.specs.Slots.{slot_at, with_slot}
use Rattle.token.specs.Chunks.{working_limit}

-- ---- numbers: control 0, isochronous 1, bulk 2, interrupt 3; Out 0, In 1

abbrev pub kind_of : ℕ → EndpointType
kind_of n = cond (n == 0) Control (cond (n == 1) Isochronous (cond (n == 2) Bulk Interrupt))

abbrev pub kind_number : EndpointType → ℕ
kind_number Control = 0
kind_number Isochronous = 1
kind_number Bulk = 2
kind_number Interrupt = 3

abbrev pub pick_direction : Bool → Direction
pick_direction true = Out
pick_direction false = In

abbrev pub direction_of : ℕ → Direction
direction_of n = pick_direction (n == 0)

abbrev pub direction_number : Direction → ℕ
direction_number Out = 0
direction_number In = 1

abbrev pub flag_of : ℕ → Bool
flag_of n = not (n == 0)

abbrev pub flag_number : Bool → ℕ
flag_number true = 1
flag_number false = 0

-- ---- from a slot's numbers

abbrev pub pipe_of : Slot → Pipe
pipe_of e = record { kind = kind_of e.kind; size = e.size; toggle = flag_of e.toggle; next = e.id }

abbrev pub with_toggle : Pipe → Bool → Pipe
with_toggle p toggle = record { kind = p.kind; size = p.size; toggle = toggle; next = p.next }

abbrev pub request_of : Slot → Request
request_of e = record { id = e.request; direction = direction_of e.direction; length = e.length; cancelled = flag_of e.cancel }

abbrev pub pick_boundary : Bool → ℕ → UnlinkBoundary
pick_boundary true n = Periodic n
pick_boundary false n = Async n

abbrev pub boundary_of : Slot → UnlinkBoundary
boundary_of e = pick_boundary (e.kind == 3) e.boundary

unfoldable pub decoded : Slot → Endpoint
decoded e =
    cond (e.phase == 1) (Idle (pipe_of e))
    (cond (e.phase == 2) (Linked (pipe_of e) (request_of e))
    (cond (e.phase == 3) (Unlinking (pipe_of e) (request_of e) (boundary_of e))
    Closed))

unfoldable pub endpoint_at : Ehci → ℕ → Endpoint
endpoint_at s k = cond (nat_lt k 32) (decoded (slot_at s k)) Closed

-- the limit of its chunks; a slot that is closed, or none, is of kind 0
abbrev pub limit_of : Settings → Pipe → ℕ
limit_of s p = working_limit p.kind s.limit p.size

abbrev pub limit_at : Ehci → ℕ → ℕ
limit_at s k = limit_of s.settings (pipe_of (slot_at s k))

-- ---- and back

abbrev pub boundary_number : UnlinkBoundary → ℕ
boundary_number (Async n) = n
boundary_number (Periodic n) = n

abbrev pub slot_with : ℕ → Pipe → Request → ℕ → Slot
slot_with phase p r boundary =
    record {
      phase = phase;
      kind = kind_number p.kind;
      size = p.size;
      toggle = flag_number p.toggle;
      id = p.next;
      request = r.id;
      direction = direction_number r.direction;
      length = r.length;
      cancel = flag_number r.cancelled;
      boundary = boundary;
    }

abbrev pub bare_slot : ℕ → ℕ → ℕ → ℕ → ℕ → Slot
bare_slot phase kind size toggle id =
    record { phase = phase; kind = kind; size = size; toggle = toggle; id = id; request = 0; direction = 0; length = 0; cancel = 0; boundary = 0 }

abbrev pub encoded : Endpoint → Slot
encoded Closed = bare_slot 0 0 0 0 1
encoded (Idle p) = bare_slot 1 (kind_number p.kind) p.size (flag_number p.toggle) p.next
encoded (Linked p r) = slot_with 2 p r 0
encoded (Unlinking p r b) = slot_with 3 p r (boundary_number b)

unfoldable pub with_endpoint : Ehci → ℕ → Endpoint → Ehci
with_endpoint s k e = with_slot s k (encoded e)
