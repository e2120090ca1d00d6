-- What any scan does, from its start and over the readings that it is fed, one a step.
use Rattle.std.specs.Prelude.{ℕ, zero, suc, ◌-◌, ◌*◌, ◌≤◌, ◌<◌, Bool, true, false, List, [], ◌∷◌, ◌++◌, map, ◌⊎◌, ◌≡◌, eqb, get_or, length, None, Option, Some}
use Rattle.register.specs.EhciRegisters.{portsc_of}
use Rattle.register.specs.Writes.{list_of}
use Rattle.register.specs.declared.writes.Write.{Write}
use Rattle.common.specs.Answers.{number_of}
use Rattle.opening.specs.Hub.{opened_hub}
use Rattle.opening.specs.declared.hub.EhciRootHub.{EhciRootHub}
use Rattle.root_hub.specs.declared.scan.Awaited.{Awaited}
use Rattle.root_hub.specs.declared.scan.Awaited.TheVariants.{Status, Gone, Release, Again}
use Rattle.root_hub.specs.declared.calls.Scanned.{Scanned}
use Rattle.root_hub.specs.Ports.{Reports, event_port, port_event_number}
use Rattle.root_hub.specs.Scan.{awaited_of, connected, enabled}
use Rattle.root_hub.specs.Ranges.{state_at, hub_good}
use Rattle.root_hub.specs.Calls.{start_of, step_of}

-- a record in its ranges, of 15 states as its type has them
pub record Right (h : EhciRootHub) : Type 0 where
  pub good : hub_good h ≡ true
  pub sized : length h.states ≡ 15

-- both calls keep it so
abbrev pub StaysRight : Type 0
StaysRight = (h : EhciRootHub) (v : ℕ) → Right h → Right (start_of h).hub × Right (step_of h v).hub

-- ---- the end

-- a step is accepted, and either there is nothing to read next or the scan goes on
abbrev pub EndsBy : EhciRootHub → List ℕ → Type 0
EndsBy h [] = ⊥
EndsBy h (v ∷ vs) =
    (number_of (step_of h v).reply.answer ≡ 0)
    × ((((step_of h v).reply.read ≡ None) × ((step_of h v).hub.step ≡ 0)) ⊎ EndsBy (step_of h v).hub vs)

-- whatever the readings are, it ends after at most five for each port
abbrev pub EndsInTime : Type 0
EndsInTime = (h : EhciRootHub) (vs : List ℕ) → Right h → length vs ≡ 5 * h.ports → EndsBy (start_of h).hub vs

-- ---- the ports, by the registers that the answers ask for

abbrev pub read_of : Option ℕ → List ℕ
read_of None = []
read_of (Some offset) = offset ∷ []

-- those of the steps that readings make
abbrev pub asked : EhciRootHub → List ℕ → List ℕ
asked h [] = []
asked h (v ∷ vs) = read_of (step_of h v).reply.read ++ asked (step_of h v).hub vs

abbrev pub skip_if : Bool → ℕ → List ℕ → List ℕ
skip_if true p ps = ps
skip_if false p ps = p ∷ ps

-- a list with each stretch of equal numbers taken as one
abbrev pub stretches : List ℕ → List ℕ
stretches [] = []
stretches (x ∷ []) = x ∷ []
stretches (x ∷ y ∷ l) = skip_if (eqb x y) x (stretches (y ∷ l))

-- n ports, from p on
abbrev pub up_from : ℕ → ℕ → List ℕ
up_from p zero = []
up_from p (suc n) = p ∷ up_from (suc p) n

-- "Ports ascend": every port's register is read, in one stretch, and in order; and nothing else is
abbrev pub VisitsAll : Type 0
VisitsAll =
    (h : EhciRootHub) (vs : List ℕ) → Right h → length vs ≡ 5 * h.ports
    → stretches (read_of (start_of h).reply.read ++ asked (start_of h).hub vs) ≡ map portsc_of (up_from 1 h.ports)

-- the ports of which events are reported
abbrev pub reported : EhciRootHub → List ℕ → List ℕ
reported h [] = []
reported h (v ∷ vs) =
    skip_if (eqb (port_event_number (step_of h v).reply.event) 0) (event_port (step_of h v).reply.event) (reported (step_of h v).hub vs)

-- each larger than the one before
abbrev pub Ascends : ℕ → List ℕ → Type 0
Ascends q [] = Unit {0}
Ascends q (p ∷ ps) = (q < p) × Ascends p ps

-- so at most one event a port, and in order
abbrev pub OneEventEach : Type 0
OneEventEach = (h : EhciRootHub) (vs : List ℕ) → Right h → Ascends 0 (reported (start_of h).hub vs)

-- ---- a port's state

-- by 01's rules alone: Uninit to Reseted when its reset is released; Reseted to Probed when it is connected and enabled,
-- with Connected, High; Probed to Uninit when it is gone, with Disconnected. No event without its change.
pub data ByRule (a : Awaited) (port v : ℕ) (old new : ℕ) (r : Scanned) : Type 0 where
  stays : new ≡ old → Reports r.reply.event 0 [] → ByRule a port v old new r
  reseted : a ≡ Release → old ≡ 0 → new ≡ 1 → Reports r.reply.event 0 [] → ByRule a port v old new r
  probed : a ≡ Again → old ≡ 1 → new ≡ 2 → connected v ≡ true → enabled v ≡ true → Reports r.reply.event 1 (port ∷ 2 ∷ []) → ByRule a port v old new r
  gone : a ≡ Gone → old ≡ 2 → new ≡ 0 → Reports r.reply.event 2 (port ∷ []) → ByRule a port v old new r

-- the port that the scan is at changes by rule, every other keeps its state
abbrev pub OnlyByRule : Type 0
OnlyByRule =
    (h : EhciRootHub) (v : ℕ) → Right h → (h.step ≡ 0 → ⊥)
    → ByRule (awaited_of h.step) h.port v (state_at h) (get_or (step_of h v).hub.states (h.port - 1) 0) (step_of h v)
    × ((k : ℕ) → (k ≡ h.port - 1 → ⊥) → get_or (step_of h v).hub.states k 0 ≡ get_or h.states k 0)

-- a scan comes to a port's loss only by reading a Probed port that is not connected, and to its reset only by reading an
-- Uninit port that is
abbrev pub OnlyWhenSeen : Type 0
OnlyWhenSeen =
    (h : EhciRootHub) (v : ℕ) → Right h → (h.step ≡ 0 → ⊥)
    → ((step_of h v).hub.step ≡ 2 → (awaited_of h.step ≡ Status) × (state_at h ≡ 2) × (connected v ≡ false))
    × ((step_of h v).hub.step ≡ 3 → (awaited_of h.step ≡ Status) × (state_at h ≡ 0) × (connected v ≡ true))

-- ---- the record as opening makes it: in its ranges where it is accepted, out of them where it is refused

abbrev pub OpenedRight : Type 0
OpenedRight = (ports : ℕ) → 1 ≤ ports → ports ≤ 15 → Right (opened_hub ports)

abbrev pub RefusedOut : Type 0
RefusedOut = hub_good (opened_hub 0) ≡ false

-- ---- the registers

-- a step writes its port's register, or none
abbrev pub OnlyOwn : Type 0
OnlyOwn =
    (h : EhciRootHub) (v : ℕ)
    → (map (λ (w : Write). w.offset) (list_of (step_of h v).reply.writes) ≡ [])
    ⊎ (map (λ (w : Write). w.offset) (list_of (step_of h v).reply.writes) ≡ portsc_of h.port ∷ [])
