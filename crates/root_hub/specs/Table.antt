-- Document 01, "Ports and bring-up", as a table: what each reading of a port must bring about, whoever makes the step.
use Rattle.std.specs.Prelude.{ℕ, ◌+◌, ◌-◌, ◌≤◌, ◌<◌, Bool, true, not, ◌&&◌, List, [], ◌∷◌, map, ◌⊎◌, ◌≡◌, set, None, Option, Some}
use Rattle.register.specs.Bits.{with_bits, without_bits}
use Rattle.register.specs.EhciRegisters.{portsc_of}
use Rattle.register.specs.Writes.{list_of, write_of}
use Rattle.token.specs.EhciPortsc.{current_connect, port_enabled}
use Rattle.token.specs.Ports.{is_set}
use Rattle.common.specs.Answers.{number_of}
use Rattle.opening.specs.declared.hub.EhciRootHub.{EhciRootHub}
use Rattle.root_hub.specs.declared.calls.PortPower.{PortPower}
use Rattle.root_hub.specs.declared.calls.Scanned.{Scanned}
use Rattle.root_hub.specs.Calls.{power_of, start_of, step_of}
use Rattle.root_hub.specs.Ports.{Reports}
use Rattle.root_hub.specs.Ranges.{hub_good, state_at}
use Rattle.root_hub.specs.Runs.{Right}

-- anything that powers and scans ports, and this port
pub record HubMachine : Type 0 where
  pub start : EhciRootHub → Scanned
  pub step : EhciRootHub → ℕ → Scanned
  pub power : EhciRootHub → ℕ → ℕ → PortPower

abbrev pub hub_core : HubMachine
hub_core = record { start = start_of; step = step_of; power = power_of }

-- ---- the table

-- a port in a state, at one of its readings, where the value read is of a kind: the state that it gets, what is written to
-- its register, the milliseconds to wait, the event's number and values, and its next reading (0: on to the next port)
pub record Row : Type 0 where
  pub state : ℕ
  pub reading : ℕ
  pub given : ℕ → Bool
  pub becomes : ℕ
  pub written : ℕ → List ℕ
  pub wait : ℕ
  pub event : ℕ
  pub values : ℕ → List ℕ
  pub after : ℕ

-- the states
abbrev pub uninit : ℕ
uninit = 0

abbrev pub reseted : ℕ
reseted = 1

abbrev pub probed : ℕ
probed = 2

-- the readings, as the record numbers them: the port's status, the loss, the reset, its release, the reading again, the owner
abbrev pub status : ℕ
status = 1

abbrev pub loss : ℕ
loss = 2

abbrev pub reset : ℕ
reset = 3

abbrev pub release : ℕ
release = 4

abbrev pub again : ℕ
again = 5

abbrev pub owner : ℕ
owner = 6

abbrev pub next_port : ℕ
next_port = 0

abbrev pub anything : ℕ → Bool
anything v = true

abbrev pub is_connected : ℕ → Bool
is_connected v = is_set (current_connect v)

abbrev pub is_enabled : ℕ → Bool
is_enabled v = is_set (port_enabled v)

abbrev pub is_absent : ℕ → Bool
is_absent v = not (is_connected v)

-- nothing is written, said or waited for: the port stays, and one reading follows
abbrev pub quiet : ℕ → ℕ → (ℕ → Bool) → ℕ → Row
quiet state reading given after =
    record {
      state = state;
      reading = reading;
      given = given;
      becomes = state;
      written = λ v. [];
      wait = 0;
      event = 0;
      values = λ port. [];
      after = after;
    }

-- one value is written
abbrev pub writing : ℕ → ℕ → ℕ → (ℕ → ℕ) → ℕ → ℕ → Row
writing state reading becomes value wait after =
    record {
      state = state;
      reading = reading;
      given = anything;
      becomes = becomes;
      written = λ v. value v ∷ [];
      wait = wait;
      event = 0;
      values = λ port. [];
      after = after;
    }

abbrev pub table : List Row
table =
    -- "Any other Probed or unconnected port: nothing."
    quiet uninit status is_absent next_port
    ∷ quiet reseted status is_absent next_port
    ∷ quiet probed status is_connected next_port
    -- "Probed, not connected: Uninit, write (v or 2) without 0x28, Disconnected."
    ∷ quiet probed status is_absent loss
    ∷ record {
      state = probed;
      reading = loss;
      given = anything;
      becomes = uninit;
      written = λ v. without_bits (with_bits v 2) 0x28 ∷ [];
      wait = 0;
      event = 2;
      values = λ port. port ∷ [];
      after = next_port;
    }
    -- "Uninit, connected: write (v or 0x1100) without 0x2A, wait 50 ms; write v without 0x100, wait 20 ms; Reseted."
    ∷ quiet uninit status is_connected reset
    ∷ writing uninit reset uninit (λ v. without_bits (with_bits v 0x1100) 0x2A) 50 release
    ∷ writing uninit release reseted (λ v. without_bits v 0x100) 20 again
    -- "Read again: connected and enabled gives Probed and Connected, High;"
    ∷ quiet reseted status is_connected again
    ∷ quiet reseted again is_absent next_port
    ∷ record {
      state = reseted;
      reading = again;
      given = λ v. is_connected v && is_enabled v;
      becomes = probed;
      written = λ v. [];
      wait = 0;
      event = 1;
      values = λ port. port ∷ 2 ∷ [];
      after = next_port;
    }
    -- "connected and not enabled writes v or 0x2000."
    ∷ quiet reseted again (λ v. is_connected v && not (is_enabled v)) owner
    ∷ writing reseted owner reseted (λ v. with_bits v 0x2000) 0 next_port
    ∷ []

-- ---- a step by its row

-- "Ports ascend": where a scan is after a reading of a port, and the register that it asks for
pub data Goes (port ports after : ℕ) (hub : EhciRootHub) (read : (Option ℕ)) : Type 0 where
  stays : (after ≡ 0 → ⊥) → hub.port ≡ port → hub.step ≡ after → read ≡ Some (portsc_of port) → Goes port ports after hub read
  ascends : after ≡ 0 → port < ports → hub.port ≡ port + 1 → hub.step ≡ status → read ≡ Some (portsc_of (port + 1)) → Goes port ports after hub read
  ends : after ≡ 0 → ports ≤ port → hub.port ≡ 0 → hub.step ≡ 0 → read ≡ None → Goes port ports after hub read

abbrev pub Matches : EhciRootHub → ℕ → Row → Type 0
Matches h v r = (state_at h ≡ r.state) × (h.step ≡ r.reading) × (r.given v ≡ true)

-- everything that a step leaves and answers is as a row says
pub record Brings (h : EhciRootHub) (v : ℕ) (r : Row) (s : Scanned) : Type 0 where
  pub accepted : number_of s.reply.answer ≡ 0
  pub reports : Reports s.reply.event r.event (r.values h.port)
  pub writes : list_of s.reply.writes ≡ map (λ (x : ℕ). write_of (portsc_of h.port) x) (r.written v)
  pub waits : s.reply.wait ≡ r.wait
  pub same_ports : s.hub.ports ≡ h.ports
  pub states : s.hub.states ≡ set h.states (h.port - 1) r.becomes
  pub goes : Goes h.port h.ports r.after s.hub s.reply.read

abbrev pub SomeRow : (Row → Type 0) → List Row → Type 0
SomeRow P [] = ⊥
SomeRow P (r ∷ rs) = P r ⊎ SomeRow P rs

abbrev pub Every : (Row → Type 0) → List Row → Type 0
Every P [] = Unit {0}
Every P (r ∷ rs) = P r × Every P rs

-- whatever port a scan is at and whatever is read: a row is there for it, and each row that is there for it is what happens
abbrev pub StepsByTable : HubMachine → Type 0
StepsByTable m =
    (h : EhciRootHub) (v : ℕ) → Right h → (h.step ≡ 0 → ⊥)
    → SomeRow (Matches h v) table × Every (λ (r : Row). Matches h v r → Brings h v r (m.step h v)) table

-- a start begins at the status of port 1 and changes nothing else
pub record Starts (h : EhciRootHub) (s : Scanned) : Type 0 where
  pub accepted : number_of s.reply.answer ≡ 0
  pub reports : Reports s.reply.event 0 []
  pub writes : list_of s.reply.writes ≡ []
  pub waits : s.reply.wait ≡ 0
  pub reads : s.reply.read ≡ Some (portsc_of 1)
  pub left : s.hub ≡ record { ports = h.ports; states = h.states; port = 1; step = status }

abbrev pub StartsAtPortOne : HubMachine → Type 0
StartsAtPortOne m = (h : EhciRootHub) → Right h → Starts h (m.start h)

-- ---- port power: (v or 0x1000) without 0x2A, 20 ms; a port that is not there: 1

pub record Powers (port v : ℕ) (p : PortPower) : Type 0 where
  pub accepted : number_of p.answer ≡ 0
  pub writes : list_of p.writes ≡ write_of (portsc_of port) (without_bits (with_bits v 0x1000) 0x2A) ∷ []
  pub waits : p.wait ≡ 20

abbrev pub PowersPorts : HubMachine → Type 0
PowersPorts m =
    (h : EhciRootHub) (port v : ℕ) → hub_good h ≡ true
    → (1 ≤ port → port ≤ h.ports → Powers port v (m.power h port v))
    × (((port < 1) ⊎ (h.ports < port)) → number_of (m.power h port v).answer ≡ 1)
