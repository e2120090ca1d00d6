-- A whole scan: the readings that each port takes of its register, what it reports and writes, and the state it is left in.
use Rattle.std.specs.Prelude.{ℕ, zero, suc, ◌+◌, ◌-◌, ◌<◌, Bool, cond, not, ◌&&◌, List, [], ◌∷◌, ◌++◌, map, ◌≡◌, eqb, get_or, Option}
use Rattle.register.specs.Bits.{with_bits, without_bits}
use Rattle.register.specs.EhciRegisters.{portsc_of}
use Rattle.register.specs.Writes.{list_of, write_of}
use Rattle.register.specs.declared.writes.Write.{Write}
use Rattle.opening.specs.declared.hub.EhciRootHub.{EhciRootHub}
use Rattle.root_hub.specs.Ports.{port_event_number, port_event_values}
use Rattle.root_hub.specs.Runs.{Right}
use Rattle.root_hub.specs.Table.{HubMachine, is_connected, is_enabled}
use Rattle.root_hub.specs.declared.ports.PortEvent.{PortEvent}

-- what a port's register has at each reading that a scan can make of it
pub record Readings : Type 0 where
  pub status : ℕ
  pub loss : ℕ
  pub reset : ℕ
  pub release : ℕ
  pub again : ℕ
  pub owner : ℕ

-- an event's number and values
abbrev pub Event : Type 0
Event = ℕ × List ℕ

-- ---- one port, by its state: Uninit 0, Reseted 1, Probed 2

-- read again it is a device of high speed that is ready, or one that is not of high speed
abbrev pub is_ready : Readings → Bool
is_ready r = is_connected r.again && is_enabled r.again

abbrev pub is_slow : Readings → Bool
is_slow r = is_connected r.again && not (is_enabled r.again)

-- the readings that are made of it, in order
abbrev pub taken_again : Readings → List ℕ
taken_again r = r.again ∷ cond (is_slow r) (r.owner ∷ []) []

abbrev pub taken : ℕ → Readings → List ℕ
taken zero r = r.status ∷ cond (is_connected r.status) (r.reset ∷ r.release ∷ taken_again r) []
taken (suc zero) r = r.status ∷ cond (is_connected r.status) (taken_again r) []
taken (suc (suc n)) r = r.status ∷ cond (is_connected r.status) [] (r.loss ∷ [])

-- "connected and enabled gives .. Connected, High"; "Probed, not connected: .. Disconnected"
abbrev pub told_again : ℕ → Readings → List Event
told_again port r = cond (is_ready r) ((1, port ∷ 2 ∷ []) ∷ []) []

abbrev pub told : ℕ → ℕ → Readings → List Event
told port zero r = cond (is_connected r.status) (told_again port r) []
told port (suc zero) r = cond (is_connected r.status) (told_again port r) []
told port (suc (suc n)) r = cond (is_connected r.status) [] ((2, port ∷ []) ∷ [])

abbrev pub left_again : Readings → ℕ
left_again r = cond (is_ready r) 2 1

abbrev pub left_in : ℕ → Readings → ℕ
left_in zero r = cond (is_connected r.status) (left_again r) 0
left_in (suc zero) r = cond (is_connected r.status) (left_again r) 1
left_in (suc (suc n)) r = cond (is_connected r.status) 2 0

abbrev pub wrote_again : Readings → List ℕ
wrote_again r = cond (is_slow r) (with_bits r.owner 0x2000 ∷ []) []

abbrev pub wrote : ℕ → Readings → List ℕ
wrote zero r =
    cond (is_connected r.status)
    (without_bits (with_bits r.reset 0x1100) 0x2A ∷ without_bits r.release 0x100 ∷ wrote_again r)
    []
wrote (suc zero) r = cond (is_connected r.status) (wrote_again r) []
wrote (suc (suc n)) r = cond (is_connected r.status) [] (without_bits (with_bits r.loss 2) 0x28 ∷ [])

abbrev pub wrote_to : ℕ → ℕ → Readings → List Write
wrote_to port state r = map (λ (x : ℕ). write_of (portsc_of port) x) (wrote state r)

-- ---- n ports, from p on, "Ports ascend"; each by its own state and its own readings

abbrev pub all_taken : (ℕ → Readings) → List ℕ → ℕ → ℕ → List ℕ
all_taken rs states p zero = []
all_taken rs states p (suc n) = taken (get_or states (p - 1) 0) (rs p) ++ all_taken rs states (p + 1) n

abbrev pub all_told : (ℕ → Readings) → List ℕ → ℕ → ℕ → List Event
all_told rs states p zero = []
all_told rs states p (suc n) = told p (get_or states (p - 1) 0) (rs p) ++ all_told rs states (p + 1) n

abbrev pub all_wrote : (ℕ → Readings) → List ℕ → ℕ → ℕ → List Write
all_wrote rs states p zero = []
all_wrote rs states p (suc n) = wrote_to p (get_or states (p - 1) 0) (rs p) ++ all_wrote rs states (p + 1) n

-- ---- a run of steps: what it reports, what it writes, and the record that it leaves

abbrev pub event_of : Option PortEvent → List Event
event_of e = cond (eqb (port_event_number e) 0) [] ((port_event_number e, port_event_values e) ∷ [])

abbrev pub reports : HubMachine → EhciRootHub → List ℕ → List Event
reports m h [] = []
reports m h (v ∷ vs) = event_of (m.step h v).reply.event ++ reports m (m.step h v).hub vs

abbrev pub writes : HubMachine → EhciRootHub → List ℕ → List Write
writes m h [] = []
writes m h (v ∷ vs) = list_of (m.step h v).reply.writes ++ writes m (m.step h v).hub vs

abbrev pub leaves : HubMachine → EhciRootHub → List ℕ → EhciRootHub
leaves m h [] = h
leaves m h (v ∷ vs) = leaves m (m.step h v).hub vs

-- from any record in its ranges and whatever the ports' registers read: the scan takes each port's readings, and it reports
-- and writes for each port exactly what they bring, leaves each in its state, and is then at its end
abbrev pub WholeScan : HubMachine → Type 0
WholeScan m =
    (h : EhciRootHub) (rs : ℕ → Readings) → Right h
    → (reports m (m.start h).hub (all_taken rs h.states 1 h.ports) ≡ all_told rs h.states 1 h.ports)
    × (writes m (m.start h).hub (all_taken rs h.states 1 h.ports) ≡ all_wrote rs h.states 1 h.ports)
    × ((leaves m (m.start h).hub (all_taken rs h.states 1 h.ports)).step ≡ 0)
    × ((k : ℕ) → k < h.ports
    → get_or (leaves m (m.start h).hub (all_taken rs h.states 1 h.ports)).states k 0 ≡ left_in (get_or h.states k 0) (rs (k + 1)))
